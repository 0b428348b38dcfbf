-- The longest listing is shorter than the longest input.
use Rattle.std.proofs.Common.{◌≡◌, ℕ, suc, ◌+◌, ◌*◌, ◌^◌, ◌<◌, ◌≤◌, List, [], ◌∷◌, ◌++◌, length, Bool, true, false, cond, decimal, arith, refl, ap, length-append, ℤ, pos, negsuc}
use Rattle.std.specs.Prelude.{Option, Some, ◌==◌, nat_le, slice_index, ◌≤ℤ◌, codes}
use Rattle.std.specs.Fmt.{signed_decimal}
use Rattle.std.specs.List.{flat_map, list_all, AllByRecursion}
use Rattle.std.specs.Str.{bytes_eq}
use Rattle.std.proofs.lemmas.Bool.{and_parts, leb-true}
use Rattle.std.proofs.lemmas.Int.{ints}
use Rattle.std.proofs.Math.Nat.{mul-suc, le_trans}
use Rattle.std.proofs.lemmas.Fmt.{length-decimal-le}
use Rattle.std.proofs.lemmas.Slice.Eq.{bytes_eq-Decides}
use Rattle.std.proofs.lemmas.List.Elements.{recursion_from_All}
use Rattle.kern_base.specs.declared.kinds.Kind.{Kind}
use Rattle.kern_base.specs.declared.kinds.Kind.TheVariants as k
use Rattle.app_image.specs.Image.{ImageRecord, IsValidImage, IsValidTask, IsValidVector, no_callback}
use Rattle.app_image.specs.Layout.{IsWord, HasWordFields, HasWords}
use Rattle.app_image.specs.Names.{IsFreeName}
use Rattle.app_image.specs.Settings.{IsValidConfig}
use Rattle.app_image.specs.declared.records.TaskDef.{TaskDef}
use Rattle.app_image.specs.declared.records.ObjDef.{ObjDef}
use Rattle.app_image.specs.declared.records.VectorDef.{VectorDef}
use Rattle.app_image.specs.declared.settings.Config.{Config}
use Rattle.asm_lines.specs.Tables.{entry}
use Rattle.asm_lines.specs.Mnemonics.{heads, head_of}
use Rattle.rv32_isa.specs.Mnemonics.{register_mnemonic, immediate_mnemonic, shift_mnemonic, store_mnemonic, branch_mnemonic, upper_mnemonic, alone_mnemonic}
use Rattle.asm_lines.specs.declared.mnemonics.Head.{Head}
use Rattle.rv32_listing.specs.WordLines.{code_line}
use Rattle.rv32_listing.specs.Disassembly.{code_lines, ram_line, object_line, task_line, vector_line, setting_lines, kind_statement, callback, disassembly}
use Rattle.listing_law.proofs.Tokens.Parts.{flat}
use Rattle.listing_law.proofs.Statements.Heads.{register_head, immediate_head, load_head, shift_head, store_head, branch_head, upper_head, alone_head}
use Rattle.listing_law.proofs.Statements.Bodies.{Body, OnRegisters, OnImmediate, OnLoad, OnShift, OnStore, OnBranch, OnUpper, OnJump, OnAlone, OnWord, body_parts, IsBody}
use Rattle.listing_law.proofs.Statements.Words.{body_of, body_text, IsCodeWord, code_word}
use Rattle.listing_law.proofs.Lines.Fit.{both, object_names, task_names, field_fits, task_words, vector_words}

-- names of a table

entry_by : {V : Type 0} (name bytes : List ℕ) (v w : V) (o : Option V) (b : Bool) → bytes_eq name bytes ≡ b → cond b (Some v) o ≡ Some w → length bytes ≤ 7 → (o ≡ Some w → length name ≤ 7) → length name ≤ 7
entry_by name bytes v w o true t e short k = let same = ap length ((bytes_eq-Decides name bytes).0 t) in omega (arith, same, short)
entry_by name bytes v w o false t e short k = k e

entry_short : {V : Type 0} (name : List ℕ) (rows : List (List ℕ × V)) (v : V) → list_all (λ row. nat_le (length row.0) 7) rows ≡ true → entry name rows ≡ Some v → length name ≤ 7
entry_short name [] v h e = absurd cc
entry_short name (row ∷ rows) v h e =
    let parts = and_parts (nat_le (length row.0) 7) (list_all (λ row. nat_le (length row.0) 7) rows) h in
    entry_by name row.0 row.1 v (entry name rows) (bytes_eq name row.0) refl e (leb-true (length row.0) 7 parts.0) (entry_short name rows v parts.1)

head_short : (name : List ℕ) (h : Head) → head_of name ≡ Some h → length name ≤ 7
head_short name h e = entry_short name heads h refl e

-- numbers

register_short : (n : ℕ) → n < 32 → length (decimal n) ≤ 2
register_short n lt = length-decimal-le 2 n (omega arith) (omega (arith, lt)) (omega (arith, lt))

word_short : (n : ℕ) → n < 2 ^ 32 → length (decimal n) ≤ 10
word_short n lt = length-decimal-le 10 n (omega arith) (omega (arith, lt)) (omega (arith, lt))

address_short : (n : ℕ) → n < 65536 → length (decimal n) ≤ 5
address_short n lt = length-decimal-le 5 n (omega arith) (omega (arith, lt)) (omega (arith, lt))

signed_short : (imm : ℤ) → negsuc 1048575 ≤ℤ imm → imm ≤ℤ pos 1048575 → length (signed_decimal imm) ≤ 8
signed_short (pos n) l h = let short = length-decimal-le 7 n (omega arith) (omega (arith, ints, h)) (omega (arith, ints, h)) in omega (arith, short)
signed_short (negsuc n) l h = let short = length-decimal-le 7 (suc n) (omega arith) (omega (arith, ints, l)) (omega (arith, ints, l)) in omega (arith, short)

-- the statement of a code word
body_short : (body : Body) → IsBody body → length (flat (body_parts body)) ≤ 60
body_short (OnRegisters op rd rs1 rs2) ok =
    let m = head_short (register_mnemonic op) _ (register_head op) in
    simp length-append (omega (arith, m, register_short rd ok.0, register_short rs1 ok.1, register_short rs2 ok.2))
body_short (OnImmediate op rd rs1 imm) ok =
    let m = head_short (immediate_mnemonic op) _ (immediate_head op ok.3) in
    simp length-append (omega (arith, m, register_short rd ok.0, register_short rs1 ok.1, signed_short imm (omega (arith, ints, ok.2.0)) (omega (arith, ints, ok.2.1))))
body_short (OnLoad op rd rs1 imm) ok =
    let m = head_short (immediate_mnemonic op) _ (load_head op ok.3) in
    simp length-append (omega (arith, m, register_short rd ok.0, register_short rs1 ok.1, signed_short imm (omega (arith, ints, ok.2.0)) (omega (arith, ints, ok.2.1))))
body_short (OnShift op rd rs1 imm) ok =
    let m = head_short (shift_mnemonic op) _ (shift_head op) in
    simp length-append (omega (arith, m, register_short rd ok.0, register_short rs1 ok.1, signed_short imm (omega (arith, ints, ok.2.0)) (omega (arith, ints, ok.2.1))))
body_short (OnStore op rs1 rs2 imm) ok =
    let m = head_short (store_mnemonic op) _ (store_head op) in
    simp length-append (omega (arith, m, register_short rs1 ok.0, register_short rs2 ok.1, signed_short imm (omega (arith, ints, ok.2.0)) (omega (arith, ints, ok.2.1))))
body_short (OnBranch op rs1 rs2 to) ok =
    let m = head_short (branch_mnemonic op) _ (branch_head op) in
    simp length-append (omega (arith, m, register_short rs1 ok.0, register_short rs2 ok.1, address_short to ok.2))
body_short (OnUpper op rd imm) ok =
    let m = head_short (upper_mnemonic op) _ (upper_head op) in
    simp length-append (omega (arith, m, register_short rd ok.0, signed_short imm (omega (arith, ints, ok.1.0)) ok.1.1))
body_short (OnJump rd to) ok = simp length-append (omega (arith, register_short rd ok.0, address_short to ok.1))
body_short (OnAlone op) ok =
    let m = head_short (alone_mnemonic op) _ (alone_head op) in
    simp length-append (omega (arith, m))
body_short (OnWord w) ok = omega arith

code_line_short : (words address w : ℕ) → address < 65536 → IsBody (body_of words address w) → length (code_line words address w) ≤ 90
code_line_short words address w lt ok =
    let same = body_text words address w in
    let s = body_short (body_of words address w) ok in
    let count = ap length same in
    simp length-append (omega (arith, count, s, address_short address lt))

-- lines of at most so many bytes
flat_short : {T : Type 0} (f : T → List ℕ) (k : ℕ) (P : T → Type 0) → ((t : T) → P t → length (f t) ≤ k) → (ts : List T) → AllByRecursion P ts → length (flat_map f ts) ≤ k * length ts
flat_short f k P g [] h = omega arith
flat_short f k P g (t ∷ ts) h =
    let here = g t h.0 in
    let rest = flat_short f k P g ts h.1 in
    let more : k * suc (length ts) ≡ k * length ts + k = mul-suc k (length ts) in
    simp length-append (omega (arith, here, rest, more))

codes_short : (words number : ℕ) (ws : List ℕ) → words ≤ 16384 → number + length ws ≤ words → AllByRecursion IsWord ws → length (code_lines words number ws) ≤ 90 * length ws
codes_short words number [] few room h = omega arith
codes_short words number (w ∷ ws) few room h =
    let code : IsCodeWord words (4 * number) w (body_of words (4 * number) w) = code_word words (4 * number) w few h.0 in
    let here = code_line_short words (4 * number) w (omega (arith, few, room)) code.fits in
    let rest = codes_short words (number + 1) ws few (omega (arith, room)) h.1 in
    let both = length-append (code_line words (4 * number) w) (code_lines words (number + 1) ws) in
    omega (arith, here, rest, both)

ram_short : (w : ℕ) → IsWord w → length (ram_line w) ≤ 17
ram_short w h = omega arith

callback_short : (address : ℕ) → address < 2 ^ 32 → length (callback address) ≤ 10
callback_short address lt = by (address == no_callback)
  where
    by : (b : Bool) → length (cond b (codes "none") (decimal address)) ≤ 10
    by true = omega arith
    by false = word_short address lt

kind_short : (n : List ℕ) (kind : Kind) (f : List ℕ) → length n ≤ 16 → ((i : ℕ) → slice_index f i < 2 ^ 32) → length (kind_statement n kind f) ≤ 84
kind_short n k.Sem f h lt = simp length-append (omega (arith, h, word_short (slice_index f 0) (lt 0)))
kind_short n k.Queue f h lt = simp length-append (omega (arith, h, word_short (slice_index f 0) (lt 0)))
kind_short n k.Flags f h lt = simp length-append (omega (arith, h, word_short (slice_index f 0) (lt 0)))
kind_short n k.Mutex f h lt = simp length-append (omega (arith, h))
kind_short n k.OneShot f h lt =
    simp length-append (omega (arith, h, word_short (slice_index f 0) (lt 0), word_short (slice_index f 1) (lt 1), callback_short (slice_index f 2) (lt 2), word_short (slice_index f 3) (lt 3)))
kind_short n k.Periodic f h lt =
    simp length-append (omega (arith, h, word_short (slice_index f 0) (lt 0), word_short (slice_index f 1) (lt 1), callback_short (slice_index f 2) (lt 2), word_short (slice_index f 3) (lt 3)))

object_short : (o : ObjDef) → IsFreeName o.name × HasWordFields o → length (object_line o) ≤ 90
object_short o h =
    let s = kind_short o.name o.kind o.f h.0.short (λ i. field_fits o.f (recursion_from_All IsWord o.f h.1.words) i) in
    simp length-append (omega (arith, s))

task_short : (words : ℕ) → words ≤ 16384 → (t : TaskDef) → IsFreeName t.name × IsValidTask words t → length (task_line t) ≤ 90
task_short words few t h =
    let w = task_words words few t h.1 in
    simp length-append (omega (arith, h.0.short, word_short t.entry w.entry, word_short t.prio w.prio, word_short t.quanta w.quanta, word_short t.qsize w.qsize, word_short t.sp w.sp))

vector_short : (words : ℕ) → words ≤ 16384 → (v : VectorDef) → IsValidVector words v → length (vector_line v) ≤ 60
vector_short words few v h =
    let w = vector_words words few v h in
    simp length-append (omega (arith, word_short v.number w.number, word_short v.level w.level, word_short v.entry w.entry, word_short v.sp w.sp))

settings_short : (c : Config) → IsValidConfig c → length (setting_lines c) ≤ 400
settings_short c h =
    simp length-append (omega (
      arith,
      word_short c.isr_limit (omega (arith, h.isr_limit_high)),
      word_short c.defer_size (omega (arith, h.defer_size_high)),
      word_short c.pool (omega (arith, h.pool_high)),
      word_short c.tmr_div (omega (arith, h.tmr_div_high)),
      word_short c.round_robin (omega (arith, h.round_robin_high)),
      word_short c.quanta (omega (arith, h.quanta_high)),
      word_short c.tick_prio (omega (arith, h.tick_prio_high)),
      word_short c.tmr_prio (omega (arith, h.tmr_prio_high)),
      word_short c.tmr_sp (omega (arith, h.tmr_sp_in_ram.high)),
      word_short c.insert (omega (arith, h.insert_high)),
    ))

total : (h c i r o t v s : List ℕ) (kh kc ki kr ko kt kv ks : ℕ) → length h ≤ kh → length c ≤ kc → length i ≤ ki → length r ≤ kr → length o ≤ ko → length t ≤ kt → length v ≤ kv → length s ≤ ks
    → length (h ++ (c ++ (i ++ (r ++ (o ++ (t ++ (v ++ s))))))) ≤ kh + kc + ki + kr + ko + kt + kv + ks
total h c i r o t v s kh kc ki kr ko kt kv ks a b d e f g j l = simp length-append (omega arith)

pub listing_short : (image : ImageRecord) → IsValidImage image → HasWords image → length (disassembly image) ≤ 4194304
unfolding disassembly
listing_short image v w =
    let words = length image.code in
    let code = codes_short words 0 image.code v.code_room (omega arith) (recursion_from_All IsWord image.code w.code) in
    let ram = flat_short ram_line 17 IsWord ram_short image.ram (recursion_from_All IsWord image.ram w.ram) in
    let objects = flat_short object_line 90 (λ o. IsFreeName o.name × HasWordFields o) object_short image.objects
    (both (λ o. IsFreeName o.name) HasWordFields image.objects (object_names image v) (recursion_from_All HasWordFields image.objects w.fields)) in
    let tasks = flat_short task_line 90 (λ t. IsFreeName t.name × IsValidTask words t) (task_short words v.code_room) image.tasks
    (both (λ t. IsFreeName t.name) (IsValidTask words) image.tasks (task_names image v) (recursion_from_All (IsValidTask words) image.tasks v.tasks)) in
    let vectors = flat_short vector_line 60 (IsValidVector words) (vector_short words v.code_room) image.vectors (recursion_from_All (IsValidVector words) image.vectors v.vectors) in
    let settings = settings_short image.config v.config in
    let all = total (codes ".code\n") (code_lines words 0 image.code) (codes ".ram\n") (flat_map ram_line image.ram) (flat_map object_line image.objects) (flat_map task_line image.tasks) (flat_map vector_line image.vectors) (setting_lines image.config)
    6 (90 * words) 5 (17 * length image.ram) (90 * length image.objects) (90 * length image.tasks) (60 * length image.vectors) 400 (omega arith) code (omega arith) ram objects tasks vectors settings in
    le_trans all (omega (arith, v.code_room, v.ram_room, v.objects_room, v.tasks_room, v.vectors_room))
