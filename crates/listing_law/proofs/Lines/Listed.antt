-- The lines of the listing of an image.
use Rattle.std.proofs.Common.{◌≡◌, ℕ, ◌+◌, ◌*◌, List, [], ◌∷◌, ◌++◌, length, map, Bool, true, false, cond, decimal, refl, sym, ap, ◌∙◌, append_assoc, pos}
use Rattle.std.specs.Prelude.{◌==◌, slice_index, codes}
use Rattle.std.specs.List.{flat_map}
use Rattle.kern_base.specs.declared.kinds.Kind.{Kind}
use Rattle.kern_base.specs.declared.kinds.Kind.TheVariants as k
use Rattle.text_lex.specs.Division.{Part, part_bytes}
use Rattle.app_image.specs.Image.{ImageRecord, no_callback}
use Rattle.app_image.specs.declared.settings.Config.{Config}
use Rattle.asm_lines.specs.Words.{keys}
use Rattle.asm_lines.specs.declared.mnemonics.Section.TheVariants as section
use Rattle.rv32_listing.specs.Texts.{label, statement}
use Rattle.rv32_listing.specs.WordLines.{code_line}
use Rattle.rv32_listing.specs.Disassembly.{code_lines, ram_line, object_line, task_line, vector_line, setting_line, setting_lines, value_of, kind_statement, disassembly}
use Rattle.rv32_listing.specs.Disassembly as spec
use Rattle.listing_law.proofs.Tokens.Parts.{flat}
use Rattle.listing_law.proofs.Lines.Rows.{flat-append}
use Rattle.listing_law.proofs.Statements.Bodies.{name, number, body_parts}
use Rattle.listing_law.proofs.Lines.Items.{Item, Turned, Coded, Stored, Declared, Tasked, Vectored, Set, callback_part, timer_with, object_parts, item_parts}
use Rattle.listing_law.proofs.Lines.Read.{line_end, items_parts}
use Rattle.listing_law.proofs.Statements.Words.{body_of, body_text}

-- the lines of code words from a number on, of so many
abbrev pub code_items : (words number : ℕ) → List ℕ → List Item
code_items words number [] = []
code_items words number (w ∷ ws) = Coded (4 * number) (body_of words (4 * number) w) ∷ code_items words (number + 1) ws

abbrev pub setting_items : Config → List Item
setting_items c = map (λ key. Set key.0 key.1 (value_of c key.1)) keys

-- all lines of an image
abbrev pub items_of : ImageRecord → List Item
items_of image =
    Turned section.Code ∷ (code_items (length image.code) 0 image.code ++ (Turned section.Ram ∷ (map Stored image.ram ++ (map Declared image.objects
    ++ (map Tasked image.tasks ++ (map Vectored image.vectors ++ setting_items image.config))))))

-- Their text.

abbrev items_text : List Item → List ℕ
items_text items = flat (items_parts items)

text_cons : (item : Item) (items : List Item) → items_text (item ∷ items) ≡ (flat (item_parts item) ++ 10 ∷ []) ++ items_text items
text_cons item items = flat-append (item_parts item) (line_end ∷ items_parts items) ∙ sym (append_assoc (flat (item_parts item)) (10 ∷ []) (items_text items))

text_append : (xs ys : List Item) → items_text (xs ++ ys) ≡ items_text xs ++ items_text ys
text_append [] ys = refl
text_append (x ∷ xs) ys =
    text_cons x (xs ++ ys)
    ∙ (ap (λ l. (flat (item_parts x) ++ 10 ∷ []) ++ l) (text_append xs ys)
    ∙ (sym (append_assoc (flat (item_parts x) ++ 10 ∷ []) (items_text xs) (items_text ys)) ∙ ap (λ l. l ++ items_text ys) (sym (text_cons x xs))))

mapped_text : {T : Type 0} (f : T → Item) (line : T → List ℕ) → ((t : T) → flat (item_parts (f t)) ++ 10 ∷ [] ≡ line t) → (ts : List T) → items_text (map f ts) ≡ flat_map line ts
mapped_text f line e [] = refl
mapped_text f line e (t ∷ ts) = text_cons (f t) (map f ts) ∙ (ap (λ l. l ++ items_text (map f ts)) (e t) ∙ ap (λ l. line t ++ l) (mapped_text f line e ts))

code_text : (words address w : ℕ) → flat (item_parts (Coded address (body_of words address w))) ++ 10 ∷ [] ≡ code_line words address w
code_text words address w =
    append_assoc (label address) (58 ∷ 32 ∷ flat (body_parts (body_of words address w))) (10 ∷ [])
    ∙ ap (λ l. label address ++ (58 ∷ 32 ∷ (l ++ 10 ∷ []))) (sym (body_text words address w))

codes_text : (words number : ℕ) (ws : List ℕ) → items_text (code_items words number ws) ≡ code_lines words number ws
codes_text words number [] = refl
codes_text words number (w ∷ ws) =
    text_cons (Coded (4 * number) (body_of words (4 * number) w)) (code_items words (number + 1) ws)
    ∙ (ap (λ l. l ++ items_text (code_items words (number + 1) ws)) (code_text words (4 * number) w) ∙ ap (λ l. code_line words (4 * number) w ++ l) (codes_text words (number + 1) ws))

callback_text : (address : ℕ) → part_bytes (callback_part address) ≡ spec.callback address
callback_text address = by (address == no_callback)
  where
    by : (b : Bool) → part_bytes (cond b (name (codes "none")) (number (pos address))) ≡ cond b (codes "none") (decimal address)
    by true = refl
    by false = refl

timer_text : (n word f : List ℕ) (call : Part) (bytes : List ℕ) → part_bytes call ≡ bytes
    → flat (timer_with call n word f) ≡ statement (codes ".timer") (n ∷ word ∷ decimal (slice_index f 0) ∷ decimal (slice_index f 1) ∷ bytes ∷ decimal (slice_index f 3) ∷ [])
timer_text n word f call bytes e = rw e refl

object_text : (n : List ℕ) (kind : Kind) (f : List ℕ) → flat (object_parts n kind f) ≡ kind_statement n kind f
object_text n k.Sem f = refl
object_text n k.Queue f = refl
object_text n k.Flags f = refl
object_text n k.Mutex f = refl
object_text n k.OneShot f = timer_text n (codes "oneshot") f (callback_part (slice_index f 2)) (spec.callback (slice_index f 2)) (callback_text (slice_index f 2))
object_text n k.Periodic f = timer_text n (codes "periodic") f (callback_part (slice_index f 2)) (spec.callback (slice_index f 2)) (callback_text (slice_index f 2))

-- the listing is the text of the lines
pub listed_text : (image : ImageRecord) → items_text (items_of image) ≡ disassembly image
unfolding disassembly
listed_text image =
    let words = length image.code in
    let c = code_items words 0 image.code in
    let o = map Declared image.objects in
    let t = map Tasked image.tasks in
    let v = map Vectored image.vectors in
    let s = setting_items image.config in
    let r = map Stored image.ram in
    let vs : items_text (v ++ s) ≡ flat_map vector_line image.vectors ++ setting_lines image.config =
    text_append v s ∙ (ap (λ l. l ++ items_text s) (mapped_text Vectored vector_line (λ x. refl) image.vectors) ∙ ap (λ l. flat_map vector_line image.vectors ++ l) (mapped_text (λ key. Set key.0 key.1 (value_of image.config key.1)) (setting_line image.config) (λ x. refl) keys)) in
    let ts : items_text (t ++ (v ++ s)) ≡ flat_map task_line image.tasks ++ (flat_map vector_line image.vectors ++ setting_lines image.config) =
    text_append t (v ++ s) ∙ (ap (λ l. l ++ items_text (v ++ s)) (mapped_text Tasked task_line (λ x. refl) image.tasks) ∙ ap (λ l. flat_map task_line image.tasks ++ l) vs) in
    let os : items_text (o ++ (t ++ (v ++ s))) ≡ spec.declarations image =
    text_append o (t ++ (v ++ s)) ∙ (ap (λ l. l ++ items_text (t ++ (v ++ s))) (mapped_text Declared object_line (λ x. ap (λ l. l ++ 10 ∷ []) (object_text x.name x.kind x.f)) image.objects) ∙ ap (λ l. flat_map object_line image.objects ++ l) ts) in
    let rs : items_text (r ++ (o ++ (t ++ (v ++ s)))) ≡ flat_map ram_line image.ram ++ spec.declarations image =
    text_append r (o ++ (t ++ (v ++ s))) ∙ (ap (λ l. l ++ items_text (o ++ (t ++ (v ++ s)))) (mapped_text Stored ram_line (λ x. refl) image.ram) ∙ ap (λ l. flat_map ram_line image.ram ++ l) os) in
    let cs : items_text (c ++ (Turned section.Ram ∷ (r ++ (o ++ (t ++ (v ++ s)))))) ≡ code_lines words 0 image.code ++ (codes ".ram\n" ++ (flat_map ram_line image.ram ++ spec.declarations image)) =
    text_append c (Turned section.Ram ∷ (r ++ (o ++ (t ++ (v ++ s))))) ∙ (ap (λ l. l ++ items_text (Turned section.Ram ∷ (r ++ (o ++ (t ++ (v ++ s)))))) (codes_text words 0 image.code) ∙ ap (λ l. code_lines words 0 image.code ++ (codes ".ram\n" ++ l)) rs) in
    ap (λ l. codes ".code\n" ++ l) cs
