-- the list stays valid with what the line gives
use Rattle.std.proofs.Common.{◌≡◌, ◌+◌, ap, sym, subst, arith, length}
use Rattle.std.proofs.lemmas.Result.{on_ok_weaker}
use Rattle.inject_list.specs.Lists.{ListRecord, IsValidList}
use Rattle.inject_list.specs.Pieces.{pieces}
use Rattle.inject_list.specs.Entries.{entry_of}
use Rattle.inject_list.specs.Reading.{entries}
use Rattle.inject_list.specs.Given.{with_given}
use Rattle.inject_list.proofs.ValidLaws.{valid_line}
use Rattle.inject_list.proofs.reading.read_line.Goals as goal

pub returns-in-Ok-clause-valid : goal.returns-in-Ok-clause-valid
returns-in-Ok-clause-valid c =
    let first : length c.list.inside.injections.items ≡ length c.args.list.now.injections = ap (λ (l : ListRecord). length l.injections) c.list.view_is in
    let second : length c.list.inside.looks.items ≡ length c.args.list.now.looks = ap (λ (l : ListRecord). length l.looks) c.list.view_is in
    let count : entries c.args.list.now ≡ c.len.result + c.len-2.result = omega (arith, first, second, c.len.ensures, c.len-2.ensures) in
    let (free, gives) = c.in-Ok.ensures c.args.list.now count in
    let valid : IsValidList c.args.image.now (with_given c.in-Ok.given c.args.list.now) =
    subst (IsValidList c.args.image.now) gives (valid_line c.args.image.now c.args.list.now (entry_of (pieces c.args.text.now c.args.line.now)) c.requires free) in
    on_ok_weaker c.add.result (λ (same : c.add.new.list ≡ with_given c.in-Ok.given c.args.list.now). subst (IsValidList c.args.image.now) (sym same) valid) c.add.ensures.ok
