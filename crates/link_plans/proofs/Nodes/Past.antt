-- Past the kernel's objects nobody waits, also after links that fit.
use Rattle.std.proofs.Common.{◌≡◌, ◌≢◌, ℕ, ◌<◌, ◌≤◌, List, [], ◌∷◌, sym, ap, ◌∙◌, subst, arith, get_or-set_other}
use Rattle.std.specs.Prelude.{insert}
use Rattle.std.proofs.Math.Nat.{not-suc-le-zero}
use Rattle.kern_base.specs.declared.numbers.Prio.{Prio}
use Rattle.kern_model.specs.Micro.{Lists, after, wait_place}
use Rattle.links.specs.Chain.{times, list_at, without}
use Rattle.micro_steps.specs.declared.link.Link.{Link}
use Rattle.micro_steps.specs.declared.link.Link.TheVariants as link
use Rattle.micro_steps.specs.Blocks.{block_of, prio_by}
use Rattle.micro_steps.specs.Whole.{FitsLink, AreFit, lists_after, prios_after}
use Rattle.link_plans.proofs.Fits.Waits.{waited}

-- from this number on nobody waits
abbrev pub NobodyWaits : ℕ → Lists → Type 0
NobodyWaits n l = (o : ℕ) → n ≤ o → list_at l.pend o ≡ []

link_keeps : (n : ℕ) (prios : List Prio) (k : Link) (l : Lists) → FitsLink n k l → NobodyWaits n l → NobodyWaits n (after (block_of prios k l) l)
link_keeps n prios (link.Unready x p) l fit none = none
link_keeps n prios (link.Ready x p tail) l fit none = none
link_keeps n prios link.Plain l fit none = none
link_keeps n prios (link.Leave m o) l fit none =
    λ q past.
    let far : q ≢ o.0 = λ e. not-suc-le-zero {n = 0} (subst (λ (xs : List ℕ). 0 < times m xs) (ap (list_at l.pend) (sym e) ∙ none q past) fit.2) in
    get_or-set_other l.pend o.0 q (without m (list_at l.pend o.0)) [] far ∙ none q past
link_keeps n prios (link.Wait m p o) l fit none =
    let w = wait_place (prio_by prios) p.0 (list_at l.pend o.0) in
    subst (NobodyWaits n) (sym (waited (prio_by prios) m p.0 o.0 l)) (λ q past.
    let far : q ≢ o.0 = λ e. not-suc-le-zero {n = q} (omega (arith, e, past, fit.2)) in
    get_or-set_other l.pend o.0 q (insert (list_at l.pend o.0) w m) [] far ∙ none q past)

pub links_keep : (n : ℕ) (prios : List Prio) (ks : List Link) (l : Lists) → AreFit n prios ks l → NobodyWaits n l → NobodyWaits n (lists_after prios ks l)
links_keep n prios [] l fit none = none
links_keep n prios (k ∷ ks) l fit none =
    let now = prios_after k prios in
    links_keep n now ks (after (block_of now k l) l) fit.1 (link_keeps n now k l fit.0 none)
