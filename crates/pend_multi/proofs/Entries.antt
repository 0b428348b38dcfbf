-- The result of entries that were taken, one after another.
use Rattle.std.proofs.Common.{◌≡◌, ℕ, suc, ◌+◌, ◌*◌, ◌^◌, ◌<◌, ◌≤◌, List, [], ◌∷◌, ◌++◌, length, map, take, replicate, set, get_or, refl, sym, ap, ◌∙◌, arith, Option, Some, None, pow-suc, append_assoc, take_all}
use Rattle.std.specs.Prelude.{◌-◌}
use Rattle.std.proofs.Math.Seq.{set-append_seam, take-append-add}
use Rattle.std.proofs.lemmas.List.{length-map, length-take, map-append, take_more, take-replicate}
use Rattle.kern_model.specs.Several.{taken_count, taken_bits, taken_messages}
use Rattle.pend_multi.specs.Takes.{message_of}
use Rattle.pend_multi.specs.declared.polls.Taken.{Taken}

-- the first of the entries as messages
abbrev pub first_messages : List (Option Taken) → ℕ → List (Option (ℕ × ℕ))
first_messages es i = map message_of (take i es)

-- so many empty entries
abbrev pub zeros : ℕ → List (ℕ × ℕ)
zeros k = replicate k (0, 0)

-- what is made of the first i entries
pub record Made (es : List (Option Taken)) (i count ready : ℕ) (msgs : List (ℕ × ℕ)) : Type 0 where
  pub counted : count ≡ taken_count (first_messages es i)
  pub low : count ≤ i
  pub bits : ready ≡ taken_bits (first_messages es i)
  pub below : ready < 2 ^ i
  pub messages : msgs ≡ taken_messages (first_messages es i) ++ zeros (8 - i)

count-some : (ps : List (Option (ℕ × ℕ))) (m : ℕ × ℕ) → taken_count (ps ++ Some m ∷ []) ≡ taken_count ps + 1
count-some [] m = refl
count-some (None ∷ ps) m = count-some ps m
count-some (Some n ∷ ps) m = ap (λ k. k + 1) (count-some ps m)

count-none : (ps : List (Option (ℕ × ℕ))) → taken_count (ps ++ None ∷ []) ≡ taken_count ps
count-none [] = refl
count-none (None ∷ ps) = count-none ps
count-none (Some n ∷ ps) = ap (λ k. k + 1) (count-none ps)

bits-some : (ps : List (Option (ℕ × ℕ))) (m : ℕ × ℕ) → taken_bits (ps ++ Some m ∷ []) ≡ taken_bits ps + 2 ^ length ps
bits-some [] m = refl
bits-some (None ∷ ps) m = let rest = bits-some ps m in let twice : 2 ^ suc (length ps) ≡ 2 * 2 ^ length ps = double (length ps) in omega arith
  where
    double : (k : ℕ) → 2 ^ suc k ≡ 2 * 2 ^ k
    double k = omega (arith, pow-suc 2 k)
bits-some (Some n ∷ ps) m = let rest = bits-some ps m in let twice : 2 ^ suc (length ps) ≡ 2 * 2 ^ length ps = double (length ps) in omega arith
  where
    double : (k : ℕ) → 2 ^ suc k ≡ 2 * 2 ^ k
    double k = omega (arith, pow-suc 2 k)

bits-none : (ps : List (Option (ℕ × ℕ))) → taken_bits (ps ++ None ∷ []) ≡ taken_bits ps
bits-none [] = refl
bits-none (None ∷ ps) = ap (λ k. 2 * k) (bits-none ps)
bits-none (Some n ∷ ps) = ap (λ k. 2 * k + 1) (bits-none ps)

messages-some : (ps : List (Option (ℕ × ℕ))) (m : ℕ × ℕ) → taken_messages (ps ++ Some m ∷ []) ≡ taken_messages ps ++ m ∷ []
messages-some [] m = refl
messages-some (None ∷ ps) m = ap (λ ms. (0, 0) ∷ ms) (messages-some ps m)
messages-some (Some n ∷ ps) m = ap (λ ms. n ∷ ms) (messages-some ps m)

messages-none : (ps : List (Option (ℕ × ℕ))) → taken_messages (ps ++ None ∷ []) ≡ taken_messages ps ++ (0, 0) ∷ []
messages-none [] = refl
messages-none (None ∷ ps) = ap (λ ms. (0, 0) ∷ ms) (messages-none ps)
messages-none (Some n ∷ ps) = ap (λ ms. n ∷ ms) (messages-none ps)

length-messages : (ps : List (Option (ℕ × ℕ))) → length (taken_messages ps) ≡ length ps
length-messages [] = refl
length-messages (None ∷ ps) = ap suc (length-messages ps)
length-messages (Some n ∷ ps) = ap suc (length-messages ps)

length-first : (es : List (Option Taken)) (i : ℕ) → i ≤ length es → length (first_messages es i) ≡ i
length-first es i h = length-map (take i es) message_of ∙ taken-length
  where
    taken-length : length (take i es) ≡ i
    taken-length = simp length-take (omega arith)

more-first : (es : List (Option Taken)) (i : ℕ) → i < length es → first_messages es (i + 1) ≡ first_messages es i ++ message_of (get_or es i None) ∷ []
more-first es i h = ap (map message_of) (take_more es i None h) ∙ map-append message_of (take i es) (get_or es i None ∷ [])

zeros-more : (i : ℕ) → i < 8 → zeros (8 - i) ≡ (0, 0) ∷ zeros (8 - (i + 1))
zeros-more i h = let e : 8 - i ≡ suc (8 - (i + 1)) = omega arith in ap zeros e

pub made-none : (es : List (Option Taken)) (i count ready : ℕ) (msgs : List (ℕ × ℕ)) → length es ≤ 8 → i < length es → get_or es i None ≡ None → Made es i count ready msgs → Made es (i + 1) count ready msgs
made-none es i count ready msgs few h is m =
    let ps = first_messages es i in
    let more : first_messages es (i + 1) ≡ ps ++ None ∷ [] = more-first es i h ∙ ap (λ o. ps ++ message_of o ∷ []) is in
    let twice : 2 ^ (i + 1) ≡ 2 * 2 ^ i = double i in
    record {
      counted = m.counted ∙ sym (ap taken_count more ∙ count-none ps);
      low = let low = m.low in omega arith;
      bits = m.bits ∙ sym (ap taken_bits more ∙ bits-none ps);
      below = let below = m.below in omega arith;
      messages =
          m.messages ∙ ap (λ zs. taken_messages ps ++ zs) (zeros-more i (omega arith))
          ∙ sym (append_assoc (taken_messages ps) ((0, 0) ∷ []) (zeros (8 - (i + 1))))
          ∙ ap (λ ms. ms ++ zeros (8 - (i + 1))) (sym (ap taken_messages more ∙ messages-none ps));
    }
  where
    double : (k : ℕ) → 2 ^ (k + 1) ≡ 2 * 2 ^ k
    double k = let e : k + 1 ≡ suc k = omega arith in ap (λ j. 2 ^ j) e ∙ omega-double k
      where
        omega-double : (k : ℕ) → 2 ^ suc k ≡ 2 * 2 ^ k
        omega-double k = omega (arith, pow-suc 2 k)

pub made-some : (es : List (Option Taken)) (i count ready : ℕ) (msgs : List (ℕ × ℕ)) (t : Taken) → length es ≤ 8 → i < length es → get_or es i None ≡ Some t → Made es i count ready msgs
    → Made es (i + 1) (count + 1) (ready + 2 ^ i) (set msgs i (t.msg, t.size))
made-some es i count ready msgs t few h is m =
    let ps = first_messages es i in
    let v : ℕ × ℕ = (t.msg, t.size) in
    let more : first_messages es (i + 1) ≡ ps ++ Some v ∷ [] = more-first es i h ∙ ap (λ o. ps ++ message_of o ∷ []) is in
    let twice : 2 ^ (i + 1) ≡ 2 * 2 ^ i = double i in
    let long : length ps ≡ i = length-first es i (omega arith) in
    let rest = zeros (8 - (i + 1)) in
    record {
      counted = ap (λ k. k + 1) m.counted ∙ sym (ap taken_count more ∙ count-some ps v);
      low = let low = m.low in omega arith;
      bits = ap (λ k. k + 2 ^ i) m.bits ∙ ap (λ k. taken_bits ps + 2 ^ k) (sym long) ∙ sym (ap taken_bits more ∙ bits-some ps v);
      below = let below = m.below in omega arith;
      messages =
          ap (λ ms. set ms i v) (m.messages ∙ ap (λ zs. taken_messages ps ++ zs) (zeros-more i (omega arith)))
          ∙ ap (λ k. set (taken_messages ps ++ (0, 0) ∷ rest) k v) (sym (length-messages ps ∙ long))
          ∙ set-append_seam (taken_messages ps) (0, 0) rest v
          ∙ sym (append_assoc (taken_messages ps) (v ∷ []) rest)
          ∙ ap (λ ms. ms ++ rest) (sym (ap taken_messages more ∙ messages-some ps v));
    }
  where
    double : (k : ℕ) → 2 ^ (k + 1) ≡ 2 * 2 ^ k
    double k = let e : k + 1 ≡ suc k = omega arith in ap (λ j. 2 ^ j) e ∙ omega-double k
      where
        omega-double : (k : ℕ) → 2 ^ suc k ≡ 2 * 2 ^ k
        omega-double k = omega (arith, pow-suc 2 k)

-- the messages with zeros behind them
pub whole-messages : (es : List (Option Taken)) → length es ≤ 8
    → taken_messages (map message_of es) ++ zeros (8 - length es) ≡ take 8 (taken_messages (map message_of es) ++ zeros 8)
whole-messages es few =
    let ms = taken_messages (map message_of es) in
    let long : length ms ≡ length es = length-messages (map message_of es) ∙ length-map es message_of in
    sym (ap (λ k. take k (ms ++ zeros 8)) (split long) ∙ take-append-add ms (zeros 8) (8 - length es)
    ∙ ap (λ zs. ms ++ zs) (take-replicate (8 - length es) 8 (0, 0) (omega arith)))
  where
    split : {n : ℕ} → n ≡ length es → 8 ≡ n + (8 - length es)
    split e = omega arith

-- all entries
pub made-all : (es : List (Option Taken)) (i count ready : ℕ) (msgs : List (ℕ × ℕ)) → length es ≤ 8 → i ≡ length es → Made es i count ready msgs
    → (count ≡ taken_count (map message_of es)) × (ready ≡ taken_bits (map message_of es)) × (msgs ≡ take 8 (taken_messages (map message_of es) ++ zeros 8))
made-all es i count ready msgs few end m =
    let all : first_messages es i ≡ map message_of es = ap (λ k. first_messages es k) end ∙ ap (map message_of) (take_all (length es) es (omega arith)) in (
      m.counted ∙ ap taken_count all,
      m.bits ∙ ap taken_bits all,
      m.messages ∙ ap (λ ps. taken_messages ps ++ zeros (8 - i)) all ∙ ap (λ k. taken_messages (map message_of es) ++ zeros (8 - k)) end ∙ whole-messages es few,
    )
