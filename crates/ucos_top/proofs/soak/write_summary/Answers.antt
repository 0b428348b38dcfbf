use Rattle.std.specs.Prelude.{codes}
use Rattle.std.proofs.Common.{◌≡◌, ◌++◌, [], List, ℕ, refl, sym, ◌∙◌, append_assoc}
use Rattle.std.proofs.KnownBytes.{Appends-trans, Appends-nil}
use Rattle.std.proofs.lemmas.Result.{err_from_is_err_and}
use Rattle.std.specs.Io.KnownBytes.{Appends}
use Rattle.outside.specs.Written.{AppendsPrefix, WritesPiece}
use Rattle.outside.proofs.Known.{AppendsPrefix-after, WritesPiece-after}
use Rattle.machine_model.specs.Premises.{premise_lines}
use Rattle.program_model.specs.Summary.{first_line, summary, summary_line}
use Rattle.ucos_top.proofs.soak.write_summary.Goals as goal

-- a prefix of the first line is written
pub returns-in_err-write-clause-bytes : goal.returns-in_err-write-clause-bytes
returns-in_err-write-clause-bytes g c = λ runs d f.
    let p = err_from_is_err_and c.from_residual.result c.from_residual.ensures.1 in
    let h = g.K.Sink.held in
    let l1 : List ℕ = first_line c.args.seed c.args.size in
    let l2 : List ℕ = summary_line (codes "direct") runs.direct in
    let l3 : List ℕ = summary_line (codes "deferred") runs.deferred in
    let pl : List ℕ = premise_lines c.args.image.now runs.deferred in
    let all : List ℕ = summary c.args.seed c.args.size c.args.image.now runs in
    let line : c.as_slice.result.now ≡ l1 = c.as_slice.ensures.value ∙ c.first_line.ensures in
    let said : AppendsPrefix (h c.args.sink.now) (h c.write.new.self) l1 = rw line at c.in_err-write.ensures.bytes in
    rw p.1 (AppendsPrefix-after (h c.args.sink.now) (h c.args.sink.now) (h c.write.new.self) [] l1 (l2 ++ (l3 ++ pl)) all (Appends-nil (h c.args.sink.now)) said refl)

-- a prefix of the line of the direct run, behind it
pub returns-in_err-write-2-clause-bytes : goal.returns-in_err-write-2-clause-bytes
returns-in_err-write-2-clause-bytes g c = λ runs d f.
    let p = err_from_is_err_and c.from_residual-in_err-write-2.result c.from_residual-in_err-write-2.ensures.1 in
    let h = g.K.Sink.held in
    let l1 : List ℕ = first_line c.args.seed c.args.size in
    let l2 : List ℕ = summary_line (codes "direct") runs.direct in
    let l3 : List ℕ = summary_line (codes "deferred") runs.deferred in
    let pl : List ℕ = premise_lines c.args.image.now runs.deferred in
    let all : List ℕ = summary c.args.seed c.args.size c.args.image.now runs in
    let line : c.as_slice.result.now ≡ l1 = c.as_slice.ensures.value ∙ c.first_line.ensures in
    let line2 : c.as_slice-2.result.now ≡ l2 = rw (d.raw_steps, d.counts) at (c.as_slice-2.ensures.value ∙ c.counted_line.ensures) in
    let w1 : Appends (h c.args.sink.now) (h c.write.new.self) l1 = rw line at c.in_ok-write.ensures.bytes in
    let said : AppendsPrefix (h c.write.new.self) (h c.write-2.new.self) l2 = rw line2 at c.in_err-write-2.ensures.bytes in
    rw p.1 (AppendsPrefix-after (h c.args.sink.now) (h c.write.new.self) (h c.write-2.new.self) l1 l2 (l3 ++ pl) all w1 said refl)

-- a prefix of the line of the deferred run
pub returns-in_err-write-3-clause-bytes : goal.returns-in_err-write-3-clause-bytes
returns-in_err-write-3-clause-bytes g c = λ runs d f.
    let p = err_from_is_err_and c.from_residual-in_err-write-3.result c.from_residual-in_err-write-3.ensures.1 in
    let h = g.K.Sink.held in
    let l1 : List ℕ = first_line c.args.seed c.args.size in
    let l2 : List ℕ = summary_line (codes "direct") runs.direct in
    let l3 : List ℕ = summary_line (codes "deferred") runs.deferred in
    let pl : List ℕ = premise_lines c.args.image.now runs.deferred in
    let all : List ℕ = summary c.args.seed c.args.size c.args.image.now runs in
    let line : c.as_slice.result.now ≡ l1 = c.as_slice.ensures.value ∙ c.first_line.ensures in
    let line2 : c.as_slice-2.result.now ≡ l2 = rw (d.raw_steps, d.counts) at (c.as_slice-2.ensures.value ∙ c.counted_line.ensures) in
    let line3 : c.as_slice-3.result.now ≡ l3 = rw (f.raw_steps, f.counts) at (c.as_slice-3.ensures.value ∙ c.counted_line-2.ensures) in
    let w1 : Appends (h c.args.sink.now) (h c.write.new.self) l1 = rw line at c.in_ok-write.ensures.bytes in
    let w2 : Appends (h c.write.new.self) (h c.write-2.new.self) l2 = rw line2 at c.in_ok-write-2.ensures.bytes in
    let u2 : Appends (h c.args.sink.now) (h c.write-2.new.self) (l1 ++ l2) = Appends-trans _ _ _ l1 l2 w1 w2 in
    let said : AppendsPrefix (h c.write-2.new.self) (h c.write-3.new.self) l3 = rw line3 at c.in_err-write-3.ensures.bytes in
    rw p.1 (AppendsPrefix-after (h c.args.sink.now) (h c.write-2.new.self) (h c.write-3.new.self) (l1 ++ l2) l3 pl all u2 said (sym (append_assoc l1 l2 _)))

-- the premises of the deferred run, behind them
pub returns-clause-bytes : goal.returns-clause-bytes
returns-clause-bytes g c = λ runs d f.
    let h = g.K.Sink.held in
    let l1 : List ℕ = first_line c.args.seed c.args.size in
    let l2 : List ℕ = summary_line (codes "direct") runs.direct in
    let l3 : List ℕ = summary_line (codes "deferred") runs.deferred in
    let pl : List ℕ = premise_lines c.args.image.now runs.deferred in
    let all : List ℕ = summary c.args.seed c.args.size c.args.image.now runs in
    let line : c.as_slice.result.now ≡ l1 = c.as_slice.ensures.value ∙ c.first_line.ensures in
    let line2 : c.as_slice-2.result.now ≡ l2 = rw (d.raw_steps, d.counts) at (c.as_slice-2.ensures.value ∙ c.counted_line.ensures) in
    let line3 : c.as_slice-3.result.now ≡ l3 = rw (f.raw_steps, f.counts) at (c.as_slice-3.ensures.value ∙ c.counted_line-2.ensures) in
    let w1 : Appends (h c.args.sink.now) (h c.write.new.self) l1 = rw line at c.in_ok-write.ensures.bytes in
    let w2 : Appends (h c.write.new.self) (h c.write-2.new.self) l2 = rw line2 at c.in_ok-write-2.ensures.bytes in
    let w3 : Appends (h c.write-2.new.self) (h c.write-3.new.self) l3 = rw line3 at c.in_ok-write-3.ensures.bytes in
    let u2 : Appends (h c.args.sink.now) (h c.write-2.new.self) (l1 ++ l2) = Appends-trans _ _ _ l1 l2 w1 w2 in
    let u3 : Appends (h c.args.sink.now) (h c.write-3.new.self) ((l1 ++ l2) ++ l3) = Appends-trans _ _ _ (l1 ++ l2) l3 u2 w3 in
    let said : WritesPiece (h c.write-3.new.self) (h c.write_premises.new.sink) c.write_premises.result pl = c.write_premises.ensures.bytes runs.deferred f.premises in
    WritesPiece-after c.write_premises.result (h c.args.sink.now) (h c.write-3.new.self) (h c.write_premises.new.sink) ((l1 ++ l2) ++ l3) pl all u3 said (sym (append_assoc l1 l2 _) ∙ sym (append_assoc (l1 ++ l2) l3 _))
