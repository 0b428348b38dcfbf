-- a vector and words are an interrupt, and without a vector there is none
use Rattle.std.proofs.Common.{◌≡◌, ◌-◌, length, take, drop, ap, sym, ◌∙◌, subst}
use Rattle.std.specs.Prelude.{Option, Some}
use Rattle.text_lex.specs.declared.Token.{Token}
use Rattle.text_lex.specs.declared.TokenKind.TheVariants.{Name}
use Rattle.inject_list.specs.Pieces.{pieces}
use Rattle.inject_list.specs.Entries.{Entry, Interrupt, interrupt_form, words_of}
use Rattle.inject_list.specs.Reading.{cause_of}
use Rattle.inject_list.specs.Given.{IsGiven, moment_at}
use Rattle.inject_list.proofs.FormLaws.{one_piece, interrupt_some, interrupt_no_vector, words_from}
use Rattle.inject_list.proofs.forms.interrupt_line.Goals as goal

pub returns-in_default-natural : goal.returns-in_default-natural
returns-in_default-natural c = λ text l count.
    let d : Token = record { kind = Name; line = 0; start = 0; len = 0 } in
    let rest = pieces text (take (length c.args.behind.now - 1) (drop 1 c.args.behind.now)) in
    ap (cause_of c.args.image.now l)
    (ap (interrupt_form (moment_at c.args.when)) (one_piece text c.args.behind.now d c.in-len1-up.len_at_least)
    ∙ interrupt_no_vector (moment_at c.args.when) _ rest (sym c.in_default-natural.is ∙ c.natural.ensures text))

pub returns : goal.returns
returns c = λ text.
    let d : Token = record { kind = Name; line = 0; start = 0; len = 0 } in
    let rest = pieces text (take (length c.args.behind.now - 1) (drop 1 c.args.behind.now)) in
    let (all, read, kept_so) = words_from (words_of rest) c.in-Some-words_of.words (sym c.in-Some-words_of.is ∙ c.words_of.ensures text) in
    let said : interrupt_form (moment_at c.args.when) (pieces text c.args.behind.now) ≡ Some (Interrupt (moment_at c.args.when) c.in-Some.vector all) =
    ap (interrupt_form (moment_at c.args.when)) (one_piece text c.args.behind.now d c.in-len1-up.len_at_least)
    ∙ interrupt_some (moment_at c.args.when) c.in-Some.vector all _ rest (sym c.in-Some.is ∙ c.natural.ensures text) read in
    subst (λ (e : Option Entry). IsGiven c.interrupt.result c.args.image.now c.args.before e) (sym said) (c.interrupt.ensures all kept_so)
