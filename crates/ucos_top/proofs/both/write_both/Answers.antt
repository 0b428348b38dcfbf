use Rattle.std.specs.Prelude.{codes}
use Rattle.std.proofs.Common.{◌≡◌, ◌++◌, [], List, ℕ, refl, sym, ap, ◌∙◌, append_assoc, append-nil, arith}
use Rattle.std.proofs.KnownBytes.{Appends-trans, Appends-nil}
use Rattle.std.proofs.lemmas.Result.{err_from_is_err_and}
use Rattle.std.specs.Io.KnownBytes.{Appends}
use Rattle.outside.specs.Written.{AppendsPrefix}
use Rattle.outside.proofs.Known.{AppendsPrefix-after}
use Rattle.kern_base.specs.declared.kinds.Method.TheVariants.{Direct, Deferred}
use Rattle.machine_model.specs.Premises.{premises, premise_lines}
use Rattle.machine_model.specs.Run.{history}
use Rattle.program_model.specs.Both.{run_of, both_text, raw_line}
use Rattle.ucos_top.proofs.CauseLaws.{cause-err}
use Rattle.ucos_top.proofs.both.write_both.Goals as goal

-- a prefix of the first heading is written
pub returns-in_err-write-clause-bytes : goal.returns-in_err-write-clause-bytes
returns-in_err-write-clause-bytes g c = λ list ed ef.
    let p = err_from_is_err_and c.from_residual.result c.from_residual.ensures.1 in
    let h = g.K.Sink.held in
    let im = c.args.image.now in
    let rd = run_of Direct im list c.args.count in
    let rf = run_of Deferred im list c.args.count in
    let p1 : List ℕ = codes "method direct\n" in
    let h1 : List ℕ = history im rd in
    let p2 : List ℕ = codes "method deferred\n" in
    let h2 : List ℕ = history im rf in
    let pl : List ℕ = premise_lines im rf in
    let rl : List ℕ = raw_line rd.last.s rf.last.s in
    let all : List ℕ = both_text im (record { direct = rd; deferred = rf }) in
    let said : AppendsPrefix (h c.args.sink.now) (h c.write.new.self) p1 = c.in_err-write.ensures.bytes in
    rw p.1 (AppendsPrefix-after (h c.args.sink.now) (h c.args.sink.now) (h c.write.new.self) [] p1 (h1 ++ (p2 ++ (h2 ++ (pl ++ rl)))) all (Appends-nil (h c.args.sink.now)) said
    refl)

-- a prefix of the direct history, behind its heading
pub returns-in_err-first-clause-bytes : goal.returns-in_err-first-clause-bytes
returns-in_err-first-clause-bytes g c = λ list ed ef.
    let p = err_from_is_err_and c.from_residual-in_err-first.result c.from_residual-in_err-first.ensures.1 in
    let h = g.K.Sink.held in
    let im = c.args.image.now in
    let rd = run_of Direct im list c.args.count in
    let rf = run_of Deferred im list c.args.count in
    let p1 : List ℕ = codes "method direct\n" in
    let h1 : List ℕ = history im rd in
    let p2 : List ℕ = codes "method deferred\n" in
    let h2 : List ℕ = history im rf in
    let pl : List ℕ = premise_lines im rf in
    let rl : List ℕ = raw_line rd.last.s rf.last.s in
    let all : List ℕ = both_text im (record { direct = rd; deferred = rf }) in
    let w1 : Appends (h c.args.sink.now) (h c.write.new.self) p1 = c.in_ok-write.ensures.bytes in
    let said : AppendsPrefix (h c.write.new.self) (h c.write_history.new.sink) h1 = rw c.requires.direct.0 at (c.in_err-first.ensures.bytes list ed) in
    rw p.1 (AppendsPrefix-after (h c.args.sink.now) (h c.write.new.self) (h c.write_history.new.sink) p1 h1 (p2 ++ (h2 ++ (pl ++ rl))) all w1 said
    refl)

-- a prefix of the second heading
pub returns-in_err-write-2-clause-bytes : goal.returns-in_err-write-2-clause-bytes
returns-in_err-write-2-clause-bytes g c = λ list ed ef.
    let p = err_from_is_err_and c.from_residual-in_err-write-2.result c.from_residual-in_err-write-2.ensures.1 in
    let h = g.K.Sink.held in
    let im = c.args.image.now in
    let rd = run_of Direct im list c.args.count in
    let rf = run_of Deferred im list c.args.count in
    let p1 : List ℕ = codes "method direct\n" in
    let h1 : List ℕ = history im rd in
    let p2 : List ℕ = codes "method deferred\n" in
    let h2 : List ℕ = history im rf in
    let pl : List ℕ = premise_lines im rf in
    let rl : List ℕ = raw_line rd.last.s rf.last.s in
    let all : List ℕ = both_text im (record { direct = rd; deferred = rf }) in
    let w1 : Appends (h c.args.sink.now) (h c.write.new.self) p1 = c.in_ok-write.ensures.bytes in
    let w2 : Appends (h c.write.new.self) (h c.write_history.new.sink) h1 = rw c.requires.direct.0 at (c.in_ok-first.ensures.bytes list ed) in
    let u2 : Appends (h c.args.sink.now) (h c.write_history.new.sink) (p1 ++ h1) = Appends-trans _ _ _ p1 h1 w1 w2 in
    let said : AppendsPrefix (h c.write_history.new.sink) (h c.write-2.new.self) p2 = c.in_err-write-2.ensures.bytes in
    rw p.1 (AppendsPrefix-after (h c.args.sink.now) (h c.write_history.new.sink) (h c.write-2.new.self) (p1 ++ h1) p2 (h2 ++ (pl ++ rl)) all u2 said
    (sym (append_assoc p1 h1 _)))

-- a prefix of the deferred history
pub returns-in_err-second-clause-bytes : goal.returns-in_err-second-clause-bytes
returns-in_err-second-clause-bytes g c = λ list ed ef.
    let p = err_from_is_err_and c.from_residual-in_err-second.result c.from_residual-in_err-second.ensures.1 in
    let h = g.K.Sink.held in
    let im = c.args.image.now in
    let rd = run_of Direct im list c.args.count in
    let rf = run_of Deferred im list c.args.count in
    let p1 : List ℕ = codes "method direct\n" in
    let h1 : List ℕ = history im rd in
    let p2 : List ℕ = codes "method deferred\n" in
    let h2 : List ℕ = history im rf in
    let pl : List ℕ = premise_lines im rf in
    let rl : List ℕ = raw_line rd.last.s rf.last.s in
    let all : List ℕ = both_text im (record { direct = rd; deferred = rf }) in
    let w1 : Appends (h c.args.sink.now) (h c.write.new.self) p1 = c.in_ok-write.ensures.bytes in
    let w2 : Appends (h c.write.new.self) (h c.write_history.new.sink) h1 = rw c.requires.direct.0 at (c.in_ok-first.ensures.bytes list ed) in
    let w3 : Appends (h c.write_history.new.sink) (h c.write-2.new.self) p2 = c.in_ok-write-2.ensures.bytes in
    let u2 : Appends (h c.args.sink.now) (h c.write_history.new.sink) (p1 ++ h1) = Appends-trans _ _ _ p1 h1 w1 w2 in
    let u3 : Appends (h c.args.sink.now) (h c.write-2.new.self) ((p1 ++ h1) ++ p2) = Appends-trans _ _ _ (p1 ++ h1) p2 u2 w3 in
    let said : AppendsPrefix (h c.write-2.new.self) (h c.write_history-2.new.sink) h2 = rw c.requires.deferred.0 at (c.in_err-second.ensures.bytes list ef) in
    rw p.1 (AppendsPrefix-after (h c.args.sink.now) (h c.write-2.new.self) (h c.write_history-2.new.sink) ((p1 ++ h1) ++ p2) h2 (pl ++ rl) all u3 said
    (sym (append_assoc p1 h1 _) ∙ sym (append_assoc (p1 ++ h1) p2 _)))

-- a prefix of the lines of premises
pub returns-in_err-write_premises-clause-bytes : goal.returns-in_err-write_premises-clause-bytes
returns-in_err-write_premises-clause-bytes g c = λ list ed ef.
    let p = err_from_is_err_and c.from_residual-in_err-write_premises.result c.from_residual-in_err-write_premises.ensures.1 in
    let h = g.K.Sink.held in
    let im = c.args.image.now in
    let rd = run_of Direct im list c.args.count in
    let rf = run_of Deferred im list c.args.count in
    let p1 : List ℕ = codes "method direct\n" in
    let h1 : List ℕ = history im rd in
    let p2 : List ℕ = codes "method deferred\n" in
    let h2 : List ℕ = history im rf in
    let pl : List ℕ = premise_lines im rf in
    let rl : List ℕ = raw_line rd.last.s rf.last.s in
    let all : List ℕ = both_text im (record { direct = rd; deferred = rf }) in
    let watched : c.in_ok-second.second.premises ≡ premises rf.events = rw c.requires.deferred.0 at (c.in_ok-second.ensures.premises list ef) in
    let w1 : Appends (h c.args.sink.now) (h c.write.new.self) p1 = c.in_ok-write.ensures.bytes in
    let w2 : Appends (h c.write.new.self) (h c.write_history.new.sink) h1 = rw c.requires.direct.0 at (c.in_ok-first.ensures.bytes list ed) in
    let w3 : Appends (h c.write_history.new.sink) (h c.write-2.new.self) p2 = c.in_ok-write-2.ensures.bytes in
    let w4 : Appends (h c.write-2.new.self) (h c.write_history-2.new.sink) h2 = rw c.requires.deferred.0 at (c.in_ok-second.ensures.bytes list ef) in
    let u2 : Appends (h c.args.sink.now) (h c.write_history.new.sink) (p1 ++ h1) = Appends-trans _ _ _ p1 h1 w1 w2 in
    let u3 : Appends (h c.args.sink.now) (h c.write-2.new.self) ((p1 ++ h1) ++ p2) = Appends-trans _ _ _ (p1 ++ h1) p2 u2 w3 in
    let u4 : Appends (h c.args.sink.now) (h c.write_history-2.new.sink) (((p1 ++ h1) ++ p2) ++ h2) = Appends-trans _ _ _ ((p1 ++ h1) ++ p2) h2 u3 w4 in
    let said : AppendsPrefix (h c.write_history-2.new.sink) (h c.write_premises.new.sink) pl = c.in_err-write_premises.ensures.bytes rf watched in
    rw p.1 (AppendsPrefix-after (h c.args.sink.now) (h c.write_history-2.new.sink) (h c.write_premises.new.sink) (((p1 ++ h1) ++ p2) ++ h2) pl rl all u4 said
    (sym (append_assoc p1 h1 _) ∙ sym (append_assoc (p1 ++ h1) p2 _) ∙ sym (append_assoc ((p1 ++ h1) ++ p2) h2 _)))

-- a prefix of the last line
pub returns-in_err-write-3-clause-bytes : goal.returns-in_err-write-3-clause-bytes
returns-in_err-write-3-clause-bytes g c = λ list ed ef.
    let p = err_from_is_err_and c.from_residual-in_err-write-3.result c.from_residual-in_err-write-3.ensures.1 in
    let h = g.K.Sink.held in
    let im = c.args.image.now in
    let rd = run_of Direct im list c.args.count in
    let rf = run_of Deferred im list c.args.count in
    let p1 : List ℕ = codes "method direct\n" in
    let h1 : List ℕ = history im rd in
    let p2 : List ℕ = codes "method deferred\n" in
    let h2 : List ℕ = history im rf in
    let pl : List ℕ = premise_lines im rf in
    let rl : List ℕ = raw_line rd.last.s rf.last.s in
    let all : List ℕ = both_text im (record { direct = rd; deferred = rf }) in
    let watched : c.in_ok-second.second.premises ≡ premises rf.events = rw c.requires.deferred.0 at (c.in_ok-second.ensures.premises list ef) in
    let first : c.in_ok-first.first.raw_steps ≡ rd.last.s = rw c.requires.direct.0 at (c.in_ok-first.ensures.raw_steps list ed) in
    let second : c.in_ok-second.second.raw_steps ≡ rf.last.s = rw c.requires.deferred.0 at (c.in_ok-second.ensures.raw_steps list ef) in
    let line : c.as_slice.result.now ≡ rl = rw (first, second) at (c.as_slice.ensures.value ∙ c.raw_line.ensures) in
    let w1 : Appends (h c.args.sink.now) (h c.write.new.self) p1 = c.in_ok-write.ensures.bytes in
    let w2 : Appends (h c.write.new.self) (h c.write_history.new.sink) h1 = rw c.requires.direct.0 at (c.in_ok-first.ensures.bytes list ed) in
    let w3 : Appends (h c.write_history.new.sink) (h c.write-2.new.self) p2 = c.in_ok-write-2.ensures.bytes in
    let w4 : Appends (h c.write-2.new.self) (h c.write_history-2.new.sink) h2 = rw c.requires.deferred.0 at (c.in_ok-second.ensures.bytes list ef) in
    let w5 : Appends (h c.write_history-2.new.sink) (h c.write_premises.new.sink) pl = c.in_ok-write_premises.ensures.bytes rf watched in
    let u2 : Appends (h c.args.sink.now) (h c.write_history.new.sink) (p1 ++ h1) = Appends-trans _ _ _ p1 h1 w1 w2 in
    let u3 : Appends (h c.args.sink.now) (h c.write-2.new.self) ((p1 ++ h1) ++ p2) = Appends-trans _ _ _ (p1 ++ h1) p2 u2 w3 in
    let u4 : Appends (h c.args.sink.now) (h c.write_history-2.new.sink) (((p1 ++ h1) ++ p2) ++ h2) = Appends-trans _ _ _ ((p1 ++ h1) ++ p2) h2 u3 w4 in
    let u5 : Appends (h c.args.sink.now) (h c.write_premises.new.sink) ((((p1 ++ h1) ++ p2) ++ h2) ++ pl) = Appends-trans _ _ _ (((p1 ++ h1) ++ p2) ++ h2) pl u4 w5 in
    let said : AppendsPrefix (h c.write_premises.new.sink) (h c.write-3.new.self) rl = rw line at c.in_err-write-3.ensures.bytes in
    rw p.1 (AppendsPrefix-after (h c.args.sink.now) (h c.write_premises.new.sink) (h c.write-3.new.self) ((((p1 ++ h1) ++ p2) ++ h2) ++ pl) rl [] all u5 said
    (sym (append_assoc p1 h1 _) ∙ sym (append_assoc (p1 ++ h1) p2 _) ∙ sym (append_assoc ((p1 ++ h1) ++ p2) h2 _) ∙ sym (append_assoc (((p1 ++ h1) ++ p2) ++ h2) pl _) ∙ ap (λ l. (((p1 ++ h1) ++ p2) ++ h2) ++ pl ++ l) (sym (append-nil rl))))

-- all is written
pub returns-clause-bytes : goal.returns-clause-bytes
returns-clause-bytes g c = λ list ed ef.
    let h = g.K.Sink.held in
    let im = c.args.image.now in
    let rd = run_of Direct im list c.args.count in
    let rf = run_of Deferred im list c.args.count in
    let p1 : List ℕ = codes "method direct\n" in
    let h1 : List ℕ = history im rd in
    let p2 : List ℕ = codes "method deferred\n" in
    let h2 : List ℕ = history im rf in
    let pl : List ℕ = premise_lines im rf in
    let rl : List ℕ = raw_line rd.last.s rf.last.s in
    let all : List ℕ = both_text im (record { direct = rd; deferred = rf }) in
    let watched : c.in_ok-second.second.premises ≡ premises rf.events = rw c.requires.deferred.0 at (c.in_ok-second.ensures.premises list ef) in
    let first : c.in_ok-first.first.raw_steps ≡ rd.last.s = rw c.requires.direct.0 at (c.in_ok-first.ensures.raw_steps list ed) in
    let second : c.in_ok-second.second.raw_steps ≡ rf.last.s = rw c.requires.deferred.0 at (c.in_ok-second.ensures.raw_steps list ef) in
    let line : c.as_slice.result.now ≡ rl = rw (first, second) at (c.as_slice.ensures.value ∙ c.raw_line.ensures) in
    let w1 : Appends (h c.args.sink.now) (h c.write.new.self) p1 = c.in_ok-write.ensures.bytes in
    let w2 : Appends (h c.write.new.self) (h c.write_history.new.sink) h1 = rw c.requires.direct.0 at (c.in_ok-first.ensures.bytes list ed) in
    let w3 : Appends (h c.write_history.new.sink) (h c.write-2.new.self) p2 = c.in_ok-write-2.ensures.bytes in
    let w4 : Appends (h c.write-2.new.self) (h c.write_history-2.new.sink) h2 = rw c.requires.deferred.0 at (c.in_ok-second.ensures.bytes list ef) in
    let w5 : Appends (h c.write_history-2.new.sink) (h c.write_premises.new.sink) pl = c.in_ok-write_premises.ensures.bytes rf watched in
    let w6 : Appends (h c.write_premises.new.sink) (h c.write-3.new.self) rl = rw line at c.in_ok-write-3.ensures.bytes in
    let u2 : Appends (h c.args.sink.now) (h c.write_history.new.sink) (p1 ++ h1) = Appends-trans _ _ _ p1 h1 w1 w2 in
    let u3 : Appends (h c.args.sink.now) (h c.write-2.new.self) ((p1 ++ h1) ++ p2) = Appends-trans _ _ _ (p1 ++ h1) p2 u2 w3 in
    let u4 : Appends (h c.args.sink.now) (h c.write_history-2.new.sink) (((p1 ++ h1) ++ p2) ++ h2) = Appends-trans _ _ _ ((p1 ++ h1) ++ p2) h2 u3 w4 in
    let u5 : Appends (h c.args.sink.now) (h c.write_premises.new.sink) ((((p1 ++ h1) ++ p2) ++ h2) ++ pl) = Appends-trans _ _ _ (((p1 ++ h1) ++ p2) ++ h2) pl u4 w5 in
    let u6 : Appends (h c.args.sink.now) (h c.write-3.new.self) (((((p1 ++ h1) ++ p2) ++ h2) ++ pl) ++ rl) = Appends-trans _ _ _ ((((p1 ++ h1) ++ p2) ++ h2) ++ pl) rl u5 w6 in
    let same : all ≡ ((((p1 ++ h1) ++ p2) ++ h2) ++ pl) ++ rl = sym (append_assoc p1 h1 _) ∙ sym (append_assoc (p1 ++ h1) p2 _) ∙ sym (append_assoc ((p1 ++ h1) ++ p2) h2 _) ∙ sym (append_assoc (((p1 ++ h1) ++ p2) ++ h2) pl _) in
    rw same u6

-- a premise is broken where one of the deferred run is
pub returns-clause-broken : goal.returns-clause-broken
returns-clause-broken g c = λ list ef.
    let rf = run_of Deferred c.args.image.now list c.args.count in
    let watched : c.in_ok-second.second.premises ≡ premises rf.events = rw c.requires.deferred.0 at (c.in_ok-second.ensures.premises list ef) in
    c.is_broken.ensures rf watched

pub returns-in_err-second-clause-cause : goal.returns-in_err-second-clause-cause
returns-in_err-second-clause-cause g c =
    let p = err_from_is_err_and c.from_residual-in_err-second.result c.from_residual-in_err-second.ensures.1 in
    let f = g.K.Sink.faults in
    let l0 = c.in_ok-write.ensures.cause.later in
    let l1 = c.in_ok-first.ensures.cause.later in
    let l2 = c.in_ok-write-2.ensures.cause.later in
    cause-err (f c.args.sink.now) (f c.write-2.new.self) (f c.write_history-2.new.sink) p.0 c.from_residual-in_err-second.result (omega arith) c.in_err-second.ensures.cause.later c.in_err-second.ensures.cause.failed p.1

pub returns-in_err-write_premises-clause-cause : goal.returns-in_err-write_premises-clause-cause
returns-in_err-write_premises-clause-cause g c =
    let p = err_from_is_err_and c.from_residual-in_err-write_premises.result c.from_residual-in_err-write_premises.ensures.1 in
    let f = g.K.Sink.faults in
    let l0 = c.in_ok-write.ensures.cause.later in
    let l1 = c.in_ok-first.ensures.cause.later in
    let l2 = c.in_ok-write-2.ensures.cause.later in
    let l3 = c.in_ok-second.ensures.cause.later in
    cause-err (f c.args.sink.now) (f c.write_history-2.new.sink) (f c.write_premises.new.sink) p.0 c.from_residual-in_err-write_premises.result (omega arith) c.in_err-write_premises.ensures.cause.later c.in_err-write_premises.ensures.cause.failed p.1

pub returns-in_err-write-3-clause-cause : goal.returns-in_err-write-3-clause-cause
returns-in_err-write-3-clause-cause g c =
    let p = err_from_is_err_and c.from_residual-in_err-write-3.result c.from_residual-in_err-write-3.ensures.1 in
    let f = g.K.Sink.faults in
    let l0 = c.in_ok-write.ensures.cause.later in
    let l1 = c.in_ok-first.ensures.cause.later in
    let l2 = c.in_ok-write-2.ensures.cause.later in
    let l3 = c.in_ok-second.ensures.cause.later in
    let l4 = c.in_ok-write_premises.ensures.cause.later in
    cause-err (f c.args.sink.now) (f c.write_premises.new.sink) (f c.write-3.new.self) p.0 c.from_residual-in_err-write-3.result (omega arith) c.in_err-write-3.ensures.cause.later c.in_err-write-3.ensures.cause.failed p.1
