-- Laws of rows of values.
use Rattle.std.proofs.Common.{◌≡◌, ℕ, zero, suc, ◌+◌, ◌-◌, ◌*◌, ◌<◌, ◌≤◌, List, [], ◌∷◌, ◌++◌, length, map, take, get_or, if◌then◌else◌, refl, sym, ap, subst, ◌∙◌, arith, add-one, Bool, true, false, ◌&&◌, ◌||◌}
use Rattle.std.specs.List.{list_any, list_all, All}
use Rattle.app_image.specs.declared.settings.ConfigKey.{ConfigKey}
use Rattle.app_image.specs.Fields.{rows}
use Rattle.app_image.specs.Reading.{setting_at, settings_at, places, is_bad_name, has_bad_name}

-- one more row at the end
rows_suc : {T : Type 0} (f : ℕ → T) (size n at : ℕ) → rows f size (suc n) at ≡ rows f size n at ++ f (at + size * n) ∷ []
rows_suc f size zero at = let e : at + size * 0 ≡ at = omega arith in rw e refl
rows_suc f size (suc n) at =
    let e : (at + size) + size * n ≡ at + size * suc n = omega arith in
    ap (λ l. f at ∷ l) (rows_suc f size n (at + size)) ∙ ap (λ p. f at ∷ (rows f size n (at + size) ++ f p ∷ [])) e

pub rows_push : {T : Type 0} (f : ℕ → T) (size n at : ℕ) → rows f size (n + 1) at ≡ rows f size n at ++ f (at + size * n) ∷ []
rows_push f size n at = rw (add-one n) (rows_suc f size n at)

-- the next row, and those behind it
pub rows_next : {T : Type 0} (f : ℕ → T) (size n k at : ℕ) → k < n
    → rows f size (n - k) (at + size * k) ≡ f (at + size * k) ∷ rows f size (n - (k + 1)) (at + size * (k + 1))
rows_next f size n k at h =
    let e : n - k ≡ suc (n - (k + 1)) = omega arith in
    let p : (at + size * k) + size ≡ at + size * (k + 1) = omega arith in
    ap (λ m. rows f size m (at + size * k)) e ∙ ap (λ q. f (at + size * k) ∷ rows f size (n - (k + 1)) q) p

pub rows_end : {T : Type 0} (f : ℕ → T) (size n k at : ℕ) → n ≤ k → rows f size (n - k) at ≡ []
rows_end f size n k at h = let e : n - k ≡ 0 = omega arith in ap (λ m. rows f size m at) e

pub length-rows : {T : Type 0} (f : ℕ → T) (size n at : ℕ) → length (rows f size n at) ≡ n
length-rows f size zero at = refl
length-rows f size (suc n) at = ap suc (length-rows f size n (at + size))

-- the value in a row
pub get_or-rows : {T : Type 0} (f : ℕ → T) (size n at k : ℕ) (d : T) → k < n → get_or (rows f size n at) k d ≡ f (at + size * k)
get_or-rows f size zero at k d h = absurd (omega arith)
get_or-rows f size (suc n) at zero d h = let e : at ≡ at + size * 0 = omega arith in ap f e
get_or-rows f size (suc n) at (suc k) d h =
    let e : (at + size) + size * k ≡ at + size * suc k = omega arith in
    get_or-rows f size n (at + size) k d (omega arith) ∙ ap f e

pub map-rows : {T U : Type 0} (g : T → U) (f : ℕ → T) (size n at : ℕ) → map g (rows f size n at) ≡ rows (λ p. g (f p)) size n at
map-rows g f size zero at = refl
map-rows g f size (suc n) at = ap (λ l. g (f at) ∷ l) (map-rows g f size n (at + size))

pub rows-add : {T : Type 0} (f : ℕ → T) (size m n at : ℕ) → rows f size (m + n) at ≡ rows f size m at ++ rows f size n (at + size * m)
rows-add f size zero n at =
    let z : zero + n ≡ n = omega arith in
    let e : at ≡ at + size * 0 = omega arith in
    ap (λ k. rows f size k at) z ∙ ap (λ p. rows f size n p) e
rows-add f size (suc m) n at =
    let s : suc m + n ≡ suc (m + n) = omega arith in
    let e : (at + size) + size * m ≡ at + size * suc m = omega arith in
    ap (λ k. rows f size k at) s ∙ ap (λ l. f at ∷ l) (rows-add f size m n (at + size)) ∙ ap (λ p. f at ∷ (rows f size m (at + size) ++ rows f size n p)) e

-- a row that passes, and those behind it
pub all_next : (p : ℕ → Bool) (size n k at : ℕ) → k < n → p (at + size * k) ≡ true
    → list_all p (places size (n - (k + 1)) (at + size * (k + 1))) ≡ list_all p (places size (n - k) (at + size * k))
all_next p size n k at h e =
    sym (ap (list_all p) (rows_next (λ q. q) size n k at h) ∙ ap (λ b. b && list_all p (places size (n - (k + 1)) (at + size * (k + 1)))) e)

-- a row that does not pass, and those behind it
pub any_next : {T : Type 0} (p : T → Bool) (f : ℕ → T) (size n k at : ℕ) → k < n → p (f (at + size * k)) ≡ false
    → list_any p (rows f size (n - (k + 1)) (at + size * (k + 1))) ≡ list_any p (rows f size (n - k) (at + size * k))
any_next p f size n k at h e =
    sym (ap (list_any p) (rows_next f size n k at h) ∙ ap (λ b. b || list_any p (rows f size (n - (k + 1)) (at + size * (k + 1)))) e)

-- a name that is not bad, and those behind it
pub bad_next : (f : ℕ → List ℕ) (size n k at : ℕ) → k < n → is_bad_name (rows f size k at) (f (at + size * k)) ≡ false
    → has_bad_name (rows f size (k + 1) at) (rows f size (n - (k + 1)) (at + size * (k + 1))) ≡ has_bad_name (rows f size k at) (rows f size (n - k) (at + size * k))
bad_next f size n k at h e =
    let rest = rows f size (n - (k + 1)) (at + size * (k + 1)) in
    ap (λ l. has_bad_name l rest) (rows_push f size k at)
    ∙ sym (ap (has_bad_name (rows f size k at)) (rows_next f size n k at h) ∙ ap (λ b. b || has_bad_name (rows f size k at ++ f (at + size * k) ∷ []) rest) e)

-- a name that is bad
pub bad_here : (f : ℕ → List ℕ) (size n k at : ℕ) → k < n → is_bad_name (rows f size k at) (f (at + size * k)) ≡ true
    → has_bad_name (rows f size k at) (rows f size (n - k) (at + size * k)) ≡ true
bad_here f size n k at h e =
    let rest = rows f size (n - (k + 1)) (at + size * (k + 1)) in
    ap (has_bad_name (rows f size k at)) (rows_next f size n k at h) ∙ ap (λ b. b || has_bad_name (rows f size k at ++ f (at + size * k) ∷ []) rest) e

-- what holds of all rows holds of each
pub row_of : {T : Type 0} (P : T → Type 0) (f : ℕ → T) (size n at k : ℕ) (d : T) → All P (rows f size n at) → k < n → P (f (at + size * k))
row_of P f size n at k d h l =
    subst P (get_or-rows f size n at k d l) (h k d (subst (λ m. k < m) (sym (length-rows f size n at)) l))

-- what holds of each row holds of all
pub All-rows : {T : Type 0} (P : T → Type 0) (f : ℕ → T) (size n at : ℕ) → ((k : ℕ) → k < n → P (f (at + size * k))) → All P (rows f size n at)
All-rows P f size n at h k d l =
    let inside : k < n = subst (λ m. k < m) (length-rows f size n at) l in
    subst P (sym (get_or-rows f size n at k d inside)) (h k inside)

-- what holds of all rows holds of the first ones, and of those behind them
pub rows_front : {T : Type 0} (P : T → Type 0) (f : ℕ → T) (size m n at : ℕ) (d : T) → All P (rows f size (m + n) at) → All P (rows f size m at)
rows_front P f size m n at d h = All-rows P f size m at (λ k l. row_of P f size (m + n) at k d h (omega arith))

pub rows_back : {T : Type 0} (P : T → Type 0) (f : ℕ → T) (size m n at : ℕ) (d : T) → All P (rows f size (m + n) at) → All P (rows f size n (at + size * m))
rows_back P f size m n at d h =
    All-rows P f size n (at + size * m) (λ k l.
    let e : at + size * (m + k) ≡ (at + size * m) + size * k = omega arith in
    subst (λ p. P (f p)) e (row_of P f size (m + n) at (m + k) d h (omega arith)))

-- an element that was pushed
pub pushed : {T : Type 0} (b : Bool) (new old : List T) (x : T) → new ≡ (if b then old ++ x ∷ [] else old) → b ≡ true → new ≡ old ++ x ∷ []
pushed true new old x e h = e
pushed false new old x e h = cc

-- the settings of one more key
settings_suc : (keys : List ConfigKey) (bytes : List ℕ) (at k : ℕ) (d : ConfigKey) → k < length keys
    → settings_at (take (suc k) keys) bytes at ≡ settings_at (take k keys) bytes at ++ setting_at (get_or keys k d) bytes (at + 4 * k) ∷ []
settings_suc [] bytes at k d h = absurd (omega arith)
settings_suc (key ∷ keys) bytes at zero d h =
    let e : at ≡ at + 4 * 0 = omega arith in ap (λ p. setting_at key bytes p ∷ []) e
settings_suc (key ∷ keys) bytes at (suc k) d h =
    let e : (at + 4) + 4 * k ≡ at + 4 * suc k = omega arith in
    ap (λ l. setting_at key bytes at ∷ l) (settings_suc keys bytes (at + 4) k d (omega arith))
    ∙ ap (λ p. setting_at key bytes at ∷ (settings_at (take k keys) bytes (at + 4) ++ setting_at (get_or keys k d) bytes p ∷ [])) e

pub settings_push : (keys : List ConfigKey) (bytes : List ℕ) (at k : ℕ) (d : ConfigKey) → k < length keys
    → settings_at (take (k + 1) keys) bytes at ≡ settings_at (take k keys) bytes at ++ setting_at (get_or keys k d) bytes (at + 4 * k) ∷ []
settings_push keys bytes at k d h = rw (add-one k) (settings_suc keys bytes at k d h)
