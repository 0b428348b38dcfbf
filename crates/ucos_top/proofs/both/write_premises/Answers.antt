use Rattle.std.specs.Prelude.{codes, if◌then◌else◌, ◌==◌}
use Rattle.std.proofs.Common.{◌++◌, [], List, ℕ, sym, ◌∙◌, append_assoc}
use Rattle.std.proofs.KnownBytes.{Appends-trans, Appends-nil}
use Rattle.std.proofs.lemmas.Result.{err_from_is_err_and}
use Rattle.std.specs.Io.KnownBytes.{Appends}
use Rattle.outside.specs.Written.{AppendsPrefix, WritesPiece}
use Rattle.outside.proofs.Known.{AppendsPrefix-after, WritesPiece-after}
use Rattle.machine_model.specs.Premises.{premise_line, premise_lines}
use Rattle.ucos_top.proofs.HeldLaws.{lines_are}
use Rattle.ucos_top.proofs.both.write_premises.Goals as goal

-- a prefix of the first line is written
pub returns-in_err-write_premise-clause-bytes : goal.returns-in_err-write_premise-clause-bytes
returns-in_err-write_premise-clause-bytes g c = λ r e.
    let p = err_from_is_err_and c.from_residual.result c.from_residual.ensures.1 in
    let h = g.K.Sink.held in
    let im = c.args.image.now in
    let pr = c.args.watched.now in
    let l1 : List ℕ = premise_line (codes "P1") pr.p1 in
    let l2 : List ℕ = premise_line (codes "P2") pr.p2 in
    let l3 : List ℕ = premise_line (codes "P3") pr.p3 in
    let l4 : List ℕ = premise_line (codes "P4") pr.p4 in
    let l5 : List ℕ = if im.config.insert == 1 then premise_line (codes "P5") pr.p5 else [] in
    let said : AppendsPrefix (h c.args.sink.now) (h c.write_premise.new.sink) l1 = rw c.step_interrupt.ensures at c.in_err-write_premise.ensures.bytes in
    rw p.1 (AppendsPrefix-after (h c.args.sink.now) (h c.args.sink.now) (h c.write_premise.new.sink) [] l1 (l2 ++ (l3 ++ (l4 ++ l5))) (premise_lines im r) (Appends-nil (h c.args.sink.now)) said
    (lines_are im pr r e))

-- a prefix of line 2, behind those before it
pub returns-in_err-write_premise-2-clause-bytes : goal.returns-in_err-write_premise-2-clause-bytes
returns-in_err-write_premise-2-clause-bytes g c = λ r e.
    let p = err_from_is_err_and c.from_residual-in_err-write_premise-2.result c.from_residual-in_err-write_premise-2.ensures.1 in
    let h = g.K.Sink.held in
    let im = c.args.image.now in
    let pr = c.args.watched.now in
    let l1 : List ℕ = premise_line (codes "P1") pr.p1 in
    let l2 : List ℕ = premise_line (codes "P2") pr.p2 in
    let l3 : List ℕ = premise_line (codes "P3") pr.p3 in
    let l4 : List ℕ = premise_line (codes "P4") pr.p4 in
    let l5 : List ℕ = if im.config.insert == 1 then premise_line (codes "P5") pr.p5 else [] in
    let w1 : Appends (h c.args.sink.now) (h c.write_premise.new.sink) l1 = rw c.step_interrupt.ensures at c.in_ok-write_premise.ensures.bytes in
    let said : AppendsPrefix (h c.write_premise.new.sink) (h c.write_premise-2.new.sink) l2 = rw c.locked_entry.ensures at c.in_err-write_premise-2.ensures.bytes in
    rw p.1 (AppendsPrefix-after (h c.args.sink.now) (h c.write_premise.new.sink) (h c.write_premise-2.new.sink) l1 l2 (l3 ++ (l4 ++ l5)) (premise_lines im r) w1 said
    (lines_are im pr r e))

-- a prefix of line 3, behind those before it
pub returns-in_err-write_premise-3-clause-bytes : goal.returns-in_err-write_premise-3-clause-bytes
returns-in_err-write_premise-3-clause-bytes g c = λ r e.
    let p = err_from_is_err_and c.from_residual-in_err-write_premise-3.result c.from_residual-in_err-write_premise-3.ensures.1 in
    let h = g.K.Sink.held in
    let im = c.args.image.now in
    let pr = c.args.watched.now in
    let l1 : List ℕ = premise_line (codes "P1") pr.p1 in
    let l2 : List ℕ = premise_line (codes "P2") pr.p2 in
    let l3 : List ℕ = premise_line (codes "P3") pr.p3 in
    let l4 : List ℕ = premise_line (codes "P4") pr.p4 in
    let l5 : List ℕ = if im.config.insert == 1 then premise_line (codes "P5") pr.p5 else [] in
    let w1 : Appends (h c.args.sink.now) (h c.write_premise.new.sink) l1 = rw c.step_interrupt.ensures at c.in_ok-write_premise.ensures.bytes in
    let w2 : Appends (h c.write_premise.new.sink) (h c.write_premise-2.new.sink) l2 = rw c.locked_entry.ensures at c.in_ok-write_premise-2.ensures.bytes in
    let u2 : Appends (h c.args.sink.now) (h c.write_premise-2.new.sink) (l1 ++ l2) = Appends-trans _ _ _ l1 l2 w1 w2 in
    let said : AppendsPrefix (h c.write_premise-2.new.sink) (h c.write_premise-3.new.sink) l3 = rw c.answer_read.ensures at c.in_err-write_premise-3.ensures.bytes in
    rw p.1 (AppendsPrefix-after (h c.args.sink.now) (h c.write_premise-2.new.sink) (h c.write_premise-3.new.sink) (l1 ++ l2) l3 (l4 ++ l5) (premise_lines im r) u2 said
    (lines_are im pr r e ∙ sym (append_assoc l1 l2 _)))

-- a prefix of line 4, behind those before it
pub returns-in_err-write_premise-4-clause-bytes : goal.returns-in_err-write_premise-4-clause-bytes
returns-in_err-write_premise-4-clause-bytes g c = λ r e.
    let p = err_from_is_err_and c.from_residual-in_err-write_premise-4.result c.from_residual-in_err-write_premise-4.ensures.1 in
    let h = g.K.Sink.held in
    let im = c.args.image.now in
    let pr = c.args.watched.now in
    let l1 : List ℕ = premise_line (codes "P1") pr.p1 in
    let l2 : List ℕ = premise_line (codes "P2") pr.p2 in
    let l3 : List ℕ = premise_line (codes "P3") pr.p3 in
    let l4 : List ℕ = premise_line (codes "P4") pr.p4 in
    let l5 : List ℕ = if im.config.insert == 1 then premise_line (codes "P5") pr.p5 else [] in
    let w1 : Appends (h c.args.sink.now) (h c.write_premise.new.sink) l1 = rw c.step_interrupt.ensures at c.in_ok-write_premise.ensures.bytes in
    let w2 : Appends (h c.write_premise.new.sink) (h c.write_premise-2.new.sink) l2 = rw c.locked_entry.ensures at c.in_ok-write_premise-2.ensures.bytes in
    let w3 : Appends (h c.write_premise-2.new.sink) (h c.write_premise-3.new.sink) l3 = rw c.answer_read.ensures at c.in_ok-write_premise-3.ensures.bytes in
    let u2 : Appends (h c.args.sink.now) (h c.write_premise-2.new.sink) (l1 ++ l2) = Appends-trans _ _ _ l1 l2 w1 w2 in
    let u3 : Appends (h c.args.sink.now) (h c.write_premise-3.new.sink) ((l1 ++ l2) ++ l3) = Appends-trans _ _ _ (l1 ++ l2) l3 u2 w3 in
    let said : AppendsPrefix (h c.write_premise-3.new.sink) (h c.write_premise-4.new.sink) l4 = rw c.post_lost.ensures at c.in_err-write_premise-4.ensures.bytes in
    rw p.1 (AppendsPrefix-after (h c.args.sink.now) (h c.write_premise-3.new.sink) (h c.write_premise-4.new.sink) ((l1 ++ l2) ++ l3) l4 l5 (premise_lines im r) u3 said
    (lines_are im pr r e ∙ sym (append_assoc l1 l2 _) ∙ sym (append_assoc (l1 ++ l2) l3 _)))

-- the last line, behind the others
pub returns-clause-bytes : goal.returns-clause-bytes
returns-clause-bytes g c = λ r e.
    let h = g.K.Sink.held in
    let im = c.args.image.now in
    let pr = c.args.watched.now in
    let l1 : List ℕ = premise_line (codes "P1") pr.p1 in
    let l2 : List ℕ = premise_line (codes "P2") pr.p2 in
    let l3 : List ℕ = premise_line (codes "P3") pr.p3 in
    let l4 : List ℕ = premise_line (codes "P4") pr.p4 in
    let l5 : List ℕ = if im.config.insert == 1 then premise_line (codes "P5") pr.p5 else [] in
    let w1 : Appends (h c.args.sink.now) (h c.write_premise.new.sink) l1 = rw c.step_interrupt.ensures at c.in_ok-write_premise.ensures.bytes in
    let w2 : Appends (h c.write_premise.new.sink) (h c.write_premise-2.new.sink) l2 = rw c.locked_entry.ensures at c.in_ok-write_premise-2.ensures.bytes in
    let w3 : Appends (h c.write_premise-2.new.sink) (h c.write_premise-3.new.sink) l3 = rw c.answer_read.ensures at c.in_ok-write_premise-3.ensures.bytes in
    let w4 : Appends (h c.write_premise-3.new.sink) (h c.write_premise-4.new.sink) l4 = rw c.post_lost.ensures at c.in_ok-write_premise-4.ensures.bytes in
    let u2 : Appends (h c.args.sink.now) (h c.write_premise-2.new.sink) (l1 ++ l2) = Appends-trans _ _ _ l1 l2 w1 w2 in
    let u3 : Appends (h c.args.sink.now) (h c.write_premise-3.new.sink) ((l1 ++ l2) ++ l3) = Appends-trans _ _ _ (l1 ++ l2) l3 u2 w3 in
    let u4 : Appends (h c.args.sink.now) (h c.write_premise-4.new.sink) (((l1 ++ l2) ++ l3) ++ l4) = Appends-trans _ _ _ ((l1 ++ l2) ++ l3) l4 u3 w4 in
    let said : WritesPiece (h c.write_premise-4.new.sink) (h c.write_fifth.new.sink) c.write_fifth.result l5 = c.write_fifth.ensures.bytes in
    WritesPiece-after c.write_fifth.result (h c.args.sink.now) (h c.write_premise-4.new.sink) (h c.write_fifth.new.sink) (((l1 ++ l2) ++ l3) ++ l4) l5 (premise_lines im r) u4 said
    (lines_are im pr r e ∙ sym (append_assoc l1 l2 _) ∙ sym (append_assoc (l1 ++ l2) l3 _) ∙ sym (append_assoc ((l1 ++ l2) ++ l3) l4 _))
