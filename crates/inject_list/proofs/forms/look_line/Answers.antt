-- a number is a priority
use Rattle.std.proofs.Common.{◌≡◌, ap, sym, ◌∙◌, subst}
use Rattle.std.specs.Prelude.{Option, Some}
use Rattle.text_lex.specs.declared.Token.{Token}
use Rattle.text_lex.specs.declared.TokenKind.TheVariants.{Name}
use Rattle.inject_list.specs.Pieces.{pieces}
use Rattle.inject_list.specs.Entries.{Entry, Looks, AtPriority, look_form}
use Rattle.inject_list.specs.Given.{IsGiven}
use Rattle.inject_list.proofs.FormLaws.{lone_piece, look_prio}
use Rattle.inject_list.proofs.forms.look_line.Goals as goal

pub returns-in-Some : goal.returns-in-Some
returns-in-Some c =
    let d : Token = record { kind = Name; line = 0; start = 0; len = 0 } in
    let said : look_form c.args.at (pieces c.args.text.now c.args.behind.now) ≡ Some (Looks c.args.at (AtPriority c.in-Some.prio)) =
    ap (look_form c.args.at) (lone_piece c.args.text.now c.args.behind.now d c.in-len1.len_at_least c.in-len1.len_below)
    ∙ look_prio c.args.at c.in-Some.prio _ (sym c.in-Some.is ∙ c.natural.ensures c.args.text.now) in
    subst (λ (e : Option Entry). IsGiven c.look-in-Some.result c.args.image.now c.args.before e) (sym said)
    (c.look-in-Some.ensures c.args.image.now (AtPriority c.in-Some.prio) (c.priority_seen.ensures c.args.image.now))
