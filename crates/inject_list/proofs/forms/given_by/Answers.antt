-- a first word, a moment and a comma, and without a moment there is no form
use Rattle.std.proofs.Common.{◌≡◌, ℕ, List, ◌-◌, length, take, drop, ap, sym, ◌∙◌, subst}
use Rattle.std.specs.Prelude.{Option}
use Rattle.text_lex.specs.declared.Token.{Token}
use Rattle.text_lex.specs.declared.TokenKind.TheVariants.{Name}
use Rattle.inject_list.specs.Pieces.{pieces}
use Rattle.inject_list.specs.Entries.{Entry, entry_of, form}
use Rattle.inject_list.specs.Reading.{cause_of}
use Rattle.inject_list.specs.Given.{IsGiven}
use Rattle.inject_list.proofs.FormLaws.{entry_line, entry_line_without}
use Rattle.inject_list.proofs.forms.given_by.Goals as goal

pub returns-in_default-natural : goal.returns-in_default-natural
returns-in_default-natural c = λ l count.
    let d : Token = record { kind = Name; line = 0; start = 0; len = 0 } in
    ap (cause_of c.args.image.now l) (entry_line_without c.args.text.now c.args.line.now d c.in-len3-up.len_at_least (sym c.in_default-natural.is ∙ c.natural.ensures c.args.text.now))

pub returns : goal.returns
returns c =
    let d : Token = record { kind = Name; line = 0; start = 0; len = 0 } in
    let rest = pieces c.args.text.now (take (length c.args.line.now - 3) (drop 3 c.args.line.now)) in
    let said : entry_of (pieces c.args.text.now c.args.line.now) ≡ form c.spelling.result.now c.in-Some.at rest =
    entry_line c.args.text.now c.args.line.now d c.in-len3-up.len_at_least c.in-Some.at c.in-Name-Comma.is-0 c.in-Name-Comma.is-1 (sym c.in-Some.is ∙ c.natural.ensures c.args.text.now)
    ∙ ap (λ (name : List ℕ). form name c.in-Some.at rest) (sym c.spelling.ensures) in
    subst (λ (e : Option Entry). IsGiven c.line_with.result c.args.image.now c.args.before e) (sym said) c.line_with.ensures
