use Rattle.std.proofs.Common.{◌≡◌, ◌≤◌, ℕ, List, [], ◌∷◌, ◌++◌, ◌+◌, ◌-◌, drop, take, get_or, length, map, min, arith, append_assoc, append-nil, ap, sym, ◌∙◌, length-append}
use Rattle.text_lex.specs.declared.TokenKind.TheVariants.{Name}
use Rattle.asm_lines.specs.Kept.{kept_of}
use Rattle.asm_lines.specs.KeptLines.{Reading, line_of, read}
use Rattle.asm_lines.specs.declared.statements.Line.{Line}
use Rattle.asm_lines.proofs.RowLaws.{rest_of, rest_of-empty, rest_of-line, rest_of-inject}
use Rattle.asm_lines.proofs.lines.read_rows.Goals as goal
use Rattle.asm_lines.proofs.lines.read_rows.Goals.{then-at-end+in_ok-refill+in_ok-line+else-is_inject+in_ok-push, else-at-end}

-- the lines so far are all that there are
ended : (lines : List Line) (rest whole : Reading) (used : ℕ) → rest.lines ≡ [] → lines ++ rest.lines ≡ whole.lines → used ≡ whole.used → record { lines = lines; used = used } ≡ whole
ended lines rest whole used e h same =
    let all : lines ≡ whole.lines = sym (append-nil lines) ∙ (ap (λ l. lines ++ l) (sym e) ∙ h) in
    let Made : List Line → ℕ → Reading = λ x u. record { lines = x; used = u } in
    ap (λ (x : List Line). Made x used) all ∙ ap (λ (u : ℕ). Made whole.lines u) same

pub returns-then-is_inject-clause-kept : goal.returns-then-is_inject-clause-kept
returns-then-is_inject-clause-kept c =
    let is_line : c.in_ok-line.line ≡ line_of c.args.text.now (get_or c.args.tokens.now c.loop-at.at (record { kind = Name; line = 0; start = 0; len = 0 })).line (take (c.row_end-end.result - c.loop-at.at) (drop c.loop-at.at c.args.tokens.now)) (map kept_of (take (c.row_end-end.result - c.loop-at.at) (drop c.loop-at.at c.args.tokens.now))) =
    c.in_ok-line.ensures ∙ ap (line_of c.args.text.now (get_or c.args.tokens.now c.loop-at.at (record { kind = Name; line = 0; start = 0; len = 0 })).line (take (c.row_end-end.result - c.loop-at.at) (drop c.loop-at.at c.args.tokens.now))) (c.deref.ensures.value ∙ c.in_ok-refill.ensures) in
    let least : c.min.result ≡ min (length c.args.tokens.now) (c.row_end-end.result + 1) = c.min.ensures in
    let here = rest_of-inject c.args.text.now c.args.tokens.now c.loop-at.at c.row_end-end.result c.loop-at-test.true c.row_end-end.ensures.value (record { kind = Name; line = 0; start = 0; len = 0 }) c.in_ok-line.line c.if-at-end.true is_line (sym c.is_inject.ensures ∙ c.if-is_inject.true) in
    let size : (rest_of c.args.text.now c.args.tokens.now c.loop-at.at).used ≡ c.row_end-end.result + 1 - c.loop-at.at = ap (λ (r : Reading). r.used) here in
    let whole : c.row_end-end.result + 1 ≡ c.loop-at.at + (rest_of c.args.text.now c.args.tokens.now c.loop-at.at).used = omega (arith, size, c.if-at-end.true) in
    ended c.loop-at.lines.items (rest_of c.args.text.now c.args.tokens.now c.loop-at.at) (read c.args.text.now c.args.tokens.now) c.min.result (ap (λ (r : Reading). r.lines) here) c.loop-at.invariant.lines
    (least ∙ (ap (min (length c.args.tokens.now)) whole ∙ c.loop-at.invariant.used))

-- a line more
continued : (lines new : List Line) (line : Line) (rest next : List Line) (whole : Reading) → new ≡ lines ++ line ∷ [] → rest ≡ line ∷ next → lines ++ rest ≡ whole.lines → new ++ next ≡ whole.lines
continued lines new line rest next whole a e h =
    ap (λ (ys : List Line). ys ++ next) a ∙ (append_assoc lines (line ∷ []) next ∙ (ap (λ l. lines ++ l) (sym e) ∙ h))

-- so many tokens more
counted : (total at end rest next used : ℕ) → at ≤ end → rest ≡ end + 1 - at + next → min total (at + rest) ≡ used → min total (end + 1 + next) ≡ used
counted total at end rest next used low e h = let whole : end + 1 + next ≡ at + rest = omega (arith, low, e) in ap (min total) whole ∙ h

pub loop-at-preserved : goal.loop-at-preserved
loop-at-preserved c = elim c.if-at-end.branch [
  | then-at-end+in_ok-refill+in_ok-line+else-is_inject+in_ok-push w ↦
      let is_line : w.in_ok-line.line ≡ line_of c.args.text.now (get_or c.args.tokens.now c.loop-at.at (record { kind = Name; line = 0; start = 0; len = 0 })).line (take (c.row_end-end.result - c.loop-at.at) (drop c.loop-at.at c.args.tokens.now)) (map kept_of (take (c.row_end-end.result - c.loop-at.at) (drop c.loop-at.at c.args.tokens.now))) =
      w.in_ok-line.ensures ∙ ap (line_of c.args.text.now (get_or c.args.tokens.now c.loop-at.at (record { kind = Name; line = 0; start = 0; len = 0 })).line (take (c.row_end-end.result - c.loop-at.at) (drop c.loop-at.at c.args.tokens.now))) (w.deref.ensures.value ∙ w.in_ok-refill.ensures) in
      let more : c.if-at-end.lines.items ≡ c.loop-at.lines.items ++ w.in_ok-line.line ∷ [] = rw w.lines-is w.in_ok-push.ensures.items in
      let next : Reading = rest_of c.args.text.now c.args.tokens.now (c.row_end-end.result + 1) in
      let here : rest_of c.args.text.now c.args.tokens.now c.loop-at.at ≡ record { lines = w.in_ok-line.line ∷ next.lines; used = c.row_end-end.result + 1 - c.loop-at.at + next.used } =
      rest_of-line c.args.text.now c.args.tokens.now c.loop-at.at c.row_end-end.result c.loop-at-test.true c.row_end-end.ensures.value (record { kind = Name; line = 0; start = 0; len = 0 }) w.in_ok-line.line w.if-at-end.true is_line (sym w.is_inject.ensures ∙ w.if-is_inject.false) in
      let longer : length c.if-at-end.lines.items ≡ length c.loop-at.lines.items + 1 = ap length more ∙ length-append c.loop-at.lines.items (w.in_ok-line.line ∷ []) in
      record {
        lines = continued c.loop-at.lines.items c.if-at-end.lines.items w.in_ok-line.line (rest_of c.args.text.now c.args.tokens.now c.loop-at.at).lines next.lines (read c.args.text.now c.args.tokens.now) more (ap (λ (r : Reading). r.lines) here) c.loop-at.invariant.lines;
        used = counted (length c.args.tokens.now) c.loop-at.at c.row_end-end.result (rest_of c.args.text.now c.args.tokens.now c.loop-at.at).used next.used (read c.args.text.now c.args.tokens.now).used (omega (arith, w.if-at-end.true)) (ap (λ (r : Reading). r.used) here) c.loop-at.invariant.used;
        few = omega (arith, longer, c.loop-at.invariant.few, w.if-at-end.true);
        inside = omega (arith, c.row_end-end.ensures.within);
      }
  | else-at-end w ↦
      let next : Reading = rest_of c.args.text.now c.args.tokens.now (c.row_end-end.result + 1) in
      let here : rest_of c.args.text.now c.args.tokens.now c.loop-at.at ≡ record { lines = next.lines; used = c.row_end-end.result + 1 - c.loop-at.at + next.used } =
      rest_of-empty c.args.text.now c.args.tokens.now c.loop-at.at c.row_end-end.result c.loop-at-test.true c.row_end-end.ensures.value w.if-at-end.false in
      let from : c.loop-at.at ≤ c.row_end-end.result = omega (arith, c.row_end-end.ensures.value) in
      record {
        lines = rw w.lines-is (ap (λ (r : Reading). c.loop-at.lines.items ++ r.lines) (sym here) ∙ c.loop-at.invariant.lines);
        used = counted (length c.args.tokens.now) c.loop-at.at c.row_end-end.result (rest_of c.args.text.now c.args.tokens.now c.loop-at.at).used next.used (read c.args.text.now c.args.tokens.now).used from (ap (λ (r : Reading). r.used) here) c.loop-at.invariant.used;
        few = rw w.lines-is (omega (arith, c.loop-at.invariant.few, from));
        inside = omega (arith, c.row_end-end.ensures.within);
      }
]
