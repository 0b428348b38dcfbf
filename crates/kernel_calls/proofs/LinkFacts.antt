-- The links of a plan that begins, and the end of the step behind them.
use Rattle.std.proofs.Common.{◌≡◌, ℕ, List, [], ◌∷◌, ◌++◌, append-nil, append_assoc, drop, refl, sym, ap, ◌∙◌, Bool, false, None}
use Rattle.std.specs.Prelude.{if◌then◌else◌}
use Rattle.kern_base.specs.declared.numbers.Prio.{Prio}
use Rattle.kern_base.specs.declared.outcomes.Decision.{Decision}
use Rattle.kern_base.specs.declared.outcomes.Decision.TheVariants.{Done, Block, Wake}
use Rattle.kern_base.specs.declared.outcomes.Who.TheVariants.{First, All as Every, Matching}
use Rattle.kern_model.specs.State.{Task}
use Rattle.kern_model.specs.Micro.{Lists, after, plain}
use Rattle.kern_model.specs.Effect.{Effect}
use Rattle.micro_steps.specs.declared.link.Link.{Link}
use Rattle.micro_steps.specs.declared.link.Link.TheVariants as link
use Rattle.micro_steps.specs.Blocks.{block_of}
use Rattle.micro_steps.specs.Whole.{AreFit, lists_after, prios_after, task_block, task_blocks}
use Rattle.link_plans.specs.Fits.{IsNoded}
use Rattle.link_plans.specs.Plans.{block_links, decision_left, end_left, last_links, links_left, matching_left, matching_links, wakes_left, wakes_links}
use Rattle.link_plans.specs.Renewals.{prios_past}
use Rattle.link_plans.specs.declared.plan.Plan.{Plan}
use Rattle.link_plans.proofs.Lemmas.{matching_begun, wakes_begun}
use Rattle.kernel_calls.specs.Stepping.{HasPrios, prios_over}

-- The links of an effect on these lists of nodes: they fit, they are its blocks, and their nodes and priorities are those after it.
pub record AreLinksOf (e : Effect) (n : ℕ) (prios : List Prio) (ks : List Link) (l : Lists) : Type 0 where
  pub fits : AreFit n prios ks l
  pub blocks : task_blocks prios ks ≡ e.blocks
  pub noded : IsNoded e.kernel.tasks (lists_after prios ks l).pend
  pub listed : HasPrios e.kernel (prios_over ks prios)

-- the links before the end of the step
abbrev pub links_of : Decision → List Task → Plan → List Link
links_of (Done a) ts q = q.known.items
links_of Block ts q = block_links ts q.caller.0 q.objects.items
links_of (Wake Matching) ts q = matching_links ts q.bits q.compared.0 q.woken.items
links_of (Wake who) ts q = wakes_links ts q.compared.0 q.woken.items

-- of tasks that are woken, the first or all
wakes-start : (ts : List Task) (q : Plan) → q.task ≡ 0 → q.made ≡ 0 → wakes_left ts q.compared.0 q.made (drop q.task q.woken.items) ≡ wakes_links ts q.compared.0 q.woken.items
wakes-start ts q t m =
    ap (λ i. wakes_left ts q.compared.0 i (drop q.task q.woken.items)) m
    ∙ ap (λ i. wakes_left ts q.compared.0 0 (drop i q.woken.items)) t
    ∙ wakes_begun ts q.compared.0 q.woken.items

left-fresh : (d : Decision) (ts : List Task) (q : Plan) → q.task ≡ 0 → q.made ≡ 0 → decision_left d ts q ≡ links_of d ts q
left-fresh (Done a) ts q t m = ap (λ i. drop i q.known.items) m
left-fresh Block ts q t m = ap (λ i. drop i (block_links ts q.caller.0 q.objects.items)) m
left-fresh (Wake First) ts q t m = wakes-start ts q t m
left-fresh (Wake Every) ts q t m = wakes-start ts q t m
left-fresh (Wake Matching) ts q t m =
    ap (λ i. matching_left ts q.bits q.compared.0 i (drop q.task q.woken.items)) m
    ∙ ap (λ i. matching_left ts q.bits q.compared.0 0 (drop i q.woken.items)) t
    ∙ matching_begun ts q.bits q.compared.0 q.woken.items

-- all links of a plan before the end of the step
abbrev pub body_of : List Task → Plan → List Link
body_of ts q = links_of q.decision ts q ++ last_links q.last

pub links-fresh : (ts : List Task) (q : Plan) → q.task ≡ 0 → q.made ≡ 0 → q.ended ≡ false → links_left ts q ≡ body_of ts q ++ link.Plain ∷ []
links-fresh ts q t m e =
    ap (λ ks. ks ++ end_left q) (left-fresh q.decision ts q t m)
    ∙ ap (λ (b : Bool). links_of q.decision ts q ++ (last_links q.last ++ (if b then [] else link.Plain ∷ []))) e
    ∙ sym (append_assoc (links_of q.decision ts q) (last_links q.last) (link.Plain ∷ []))

-- a plan without a last link
pub body-alone : (ts : List Task) (q : Plan) → q.last ≡ None → body_of ts q ≡ links_of q.decision ts q
body-alone ts q none = ap (λ o. links_of q.decision ts q ++ last_links o) none ∙ append-nil (links_of q.decision ts q)

-- the end of a step changes nothing
pub fit-end : (n : ℕ) (prios : List Prio) (ks : List Link) (l : Lists) → AreFit n prios ks l → AreFit n prios (ks ++ link.Plain ∷ []) l
fit-end n prios [] l f = (tt, tt)
fit-end n prios (k ∷ ks) l f = (f.0, fit-end n (prios_after k prios) ks (after (block_of (prios_after k prios) k l) l) f.1)

pub lists-end : (prios : List Prio) (ks : List Link) (l : Lists) → lists_after prios (ks ++ link.Plain ∷ []) l ≡ lists_after prios ks l
lists-end prios [] l = refl
lists-end prios (k ∷ ks) l = lists-end (prios_after k prios) ks (after (block_of (prios_after k prios) k l) l)

pub blocks-end : (prios : List Prio) (ks : List Link) → task_blocks prios (ks ++ link.Plain ∷ []) ≡ task_blocks prios ks ++ plain ∷ []
blocks-end prios [] = refl
blocks-end prios (k ∷ ks) = ap (λ bs. task_block (prios_after k prios) k ∷ bs) (blocks-end (prios_after k prios) ks)

pub prios-end : (ks : List Link) (prios : List Prio) → prios_over (ks ++ link.Plain ∷ []) prios ≡ prios_over ks prios
prios-end [] prios = refl
prios-end (k ∷ ks) prios = prios-end ks (prios_after k prios)

-- the priorities once links are made
pub over-past : (ks : List Link) (prios : List Prio) → prios_over ks prios ≡ prios_past prios ks
over-past [] prios = refl
over-past (k ∷ ks) prios = over-past ks (prios_after k prios)
