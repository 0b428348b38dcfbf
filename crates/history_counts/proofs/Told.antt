-- What an event writes into a history, as the reader reads it.
use Rattle.std.proofs.Common.{◌≡◌, ℕ, ◌+◌, ◌-◌, List, [], ◌∷◌, ◌++◌, map, take, Bool, true, false, cond, codes, decimal, Option, arith, refl, ap, ◌∙◌}
use Rattle.std.specs.Prelude.{Some, None, nat_lt, is_some}
use Rattle.std.specs.List.{AllByRecursion}
use Rattle.kern_base.specs.declared.numbers.TaskId.{TaskId}
use Rattle.kern_base.specs.Errors.{error_name}
use Rattle.app_image.specs.Image.{ImageRecord}
use Rattle.app_image.specs.Names.{IsFreeName, names_of}
use Rattle.app_image.specs.declared.records.TaskDef.{TaskDef}
use Rattle.app_image.specs.declared.records.ObjDef.{ObjDef}
use Rattle.machine_model.specs.declared.events.Event.{Event}
use Rattle.machine_model.specs.declared.events.What.{What}
use Rattle.machine_model.specs.declared.events.What.TheVariants.{Quiet, Start, Call, Ret, Wait, Gone, St, Trap, Tick, Tmr, Fire, Irq, Post, ICall, Exit, Take, Look}
use Rattle.machine_model.specs.Words.{name_of, object_name, service_word, trap_word, who_words, size_words, table_words, switch_words}
use Rattle.machine_model.specs.Text.{in_history, history_words, history_line, event_history}
use Rattle.program_model.specs.Summary.{is_call}
use Rattle.history_counts.proofs.Reader.{seen, read, read-append}
use Rattle.history_counts.proofs.Reader.Place.{Number}
use Rattle.history_counts.proofs.Spelled.{IsOneLine, AreOneLine, all-append, decimal_one, decimals_one, task_one, object_one, names_behind, service_one, error_one, trap_one, size_one, table_one}
use Rattle.history_counts.proofs.Lines.{read_own, read_switch}

module _ (image : ImageRecord) (free : AllByRecursion IsFreeName (names_of image.tasks image.objects)) where
  named : (x : ℕ) → IsOneLine (name_of image x)
  named x = task_one x x image.tasks (map (λ (o : ObjDef). o.name) image.objects) free

  object_named : (x : ℕ) → IsOneLine (object_name image x)
  object_named x = object_one x image.objects (names_behind (map (λ (t : TaskDef). t.name) image.tasks) (map (λ (o : ObjDef). o.name) image.objects) free)

  who_one : (who : ℕ) → AreOneLine (who_words image who)
  who_one who = of (nat_lt who 64)
    where
      of : (t : Bool) → AreOneLine (cond t (name_of image who ∷ []) (codes "isr" ∷ decimal (who - 64) ∷ []))
      of true = (named who, tt)
      of false = (refl, (decimal_one (who - 64), tt))

  -- an event's own line, where histories keep it
  abbrev Reads : What → Type 0
  Reads what = (t c s o : ℕ) → read (history_line t (history_words image what)) (seen Number c s o) ≡ seen Number (c + cond (is_call what) 1 0) s (o + cond (in_history what) 1 0)

  silent : (c s o : ℕ) → seen Number c s o ≡ seen Number (c + 0) s (o + 0)
  silent c s o =
      let calls : c ≡ c + 0 = omega arith in
      let own : o ≡ o + 0 = omega arith in
      ap (λ n. seen Number n s o) calls ∙ ap (λ n. seen Number (c + 0) s n) own

  reads : (what : What) → Reads what
  reads Quiet t c s o = silent c s o
  reads (Start task) t c s o = read_own t (codes "start") (name_of image task.0 ∷ []) c s o refl refl (named task.0, tt)
  reads (Call task service args n_args) t c s o =
      read_own t (codes "call") (name_of image task.0 ∷ service_word service ∷ map decimal (take n_args args)) c s o refl refl
      (named task.0, (service_one service, decimals_one (take n_args args)))
  reads (Ret task service err value size tab n_tab) t c s o =
      read_own t (codes "ret") (name_of image task.0 ∷ service_word service ∷ error_name err ∷ decimal value ∷ size_words service size ++ table_words (take n_tab tab)) c s o refl refl (
        named task.0,
        (
          service_one service,
          (
            error_one err,
            (
              decimal_one value,
              all-append (size_words service size) (table_words (take n_tab tab)) (size_one service size) (table_one (take n_tab tab)),
            ),
          ),
        ),
      )
  reads (Wait task service) t c s o = read_own t (codes "wait") (name_of image task.0 ∷ service_word service ∷ []) c s o refl refl (named task.0, (service_one service, tt))
  reads (Gone task) t c s o = read_own t (codes "gone") (name_of image task.0 ∷ []) c s o refl refl (named task.0, tt)
  reads (St who addr width value) t c s o =
      read_own t (codes "st") (who_words image who ++ decimal addr ∷ decimal width ∷ decimal value ∷ []) c s o refl refl
      (all-append (who_words image who) (decimal addr ∷ decimal width ∷ decimal value ∷ []) (who_one who) (decimals_one (addr ∷ width ∷ value ∷ [])))
  reads (Trap task kind pc) t c s o = read_own t (codes "trap") (name_of image task.0 ∷ trap_word kind ∷ decimal pc ∷ []) c s o refl refl (named task.0, (trap_one kind, (decimal_one pc, tt)))
  reads (Tick count) t c s o = read_own t (codes "tick") (decimal count ∷ []) c s o refl refl (decimal_one count, tt)
  reads (Tmr count) t c s o = read_own t (codes "tmr") (decimal count ∷ []) c s o refl refl (decimal_one count, tt)
  reads (Fire object) t c s o = read_own t (codes "fire") (object_name image object.0 ∷ []) c s o refl refl (object_named object.0, tt)
  reads (Irq vector level by_step locked) t c s o = read_own t (codes "irq") (decimal vector ∷ decimal level ∷ []) c s o refl refl (decimals_one (vector ∷ level ∷ []))
  reads (Post vector service args n_args err value) t c s o = silent c s o
  reads (ICall vector service err) t c s o = silent c s o
  reads (Exit vector how) t c s o = silent c s o
  reads (Take service args n_args err value same) t c s o = silent c s o
  reads (Look chain forward n_forward back n_back) t c s o = silent c s o

  -- the line of a switch, where there is one
  reads_switch : (switch : Option (TaskId × TaskId)) (t c s o : ℕ) → read (history_line t (switch_words image switch)) (seen Number c s o) ≡ seen Number c (s + cond (is_some switch) 1 0) o
  reads_switch None t c s o = let stays : s ≡ s + 0 = omega arith in ap (λ n. seen Number c n o) stays
  reads_switch (Some tasks) t c s o = read_switch t (name_of image tasks.0.0 ∷ name_of image tasks.1.0 ∷ []) c s o (named tasks.0.0, (named tasks.1.0, tt))

  -- an event
  pub reads_event : (e : Event) (c s o : ℕ) → read (event_history image e) (seen Number c s o) ≡ seen Number (c + cond (is_call e.what) 1 0) (s + cond (is_some e.switch) 1 0) (o + cond (in_history e.what) 1 0)
  reads_event e c s o =
      let own : List ℕ = history_line e.t (history_words image e.what) in
      let switched : List ℕ = history_line e.t (switch_words image e.switch) in
      read-append own switched (seen Number c s o)
      ∙ ap (read switched) (reads e.what e.t c s o)
      ∙ reads_switch e.switch e.t (c + cond (is_call e.what) 1 0) s (o + cond (in_history e.what) 1 0)
