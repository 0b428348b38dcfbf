-- Links one after the other: what an effect's links leave is where the next effect's begin.
use Rattle.std.proofs.Common.{◌≡◌, ◌≤◌, ℕ, List, [], ◌∷◌, ◌++◌, length, refl, sym, ap, ◌∙◌, subst}
use Rattle.kern_base.specs.declared.numbers.Prio.{Prio}
use Rattle.kern_base.specs.declared.outcomes.Outcome.{Outcome}
use Rattle.kern_model.specs.State.{Kernel}
use Rattle.kern_model.specs.Micro.{Halves, Lists, after, in_order, lists_of}
use Rattle.kern_model.specs.Effect.{Effect}
use Rattle.kern_model.specs.Valid.{IsLinked}
use Rattle.kern_model.proofs.Lemmas.{Leads}
use Rattle.links.specs.Chain as nodes
use Rattle.micro_steps.specs.declared.link.Link.{Link}
use Rattle.micro_steps.specs.Halfway.{seen_lists}
use Rattle.micro_steps.specs.Whole.{AreFit, lists_after, prios_after, task_blocks}
use Rattle.link_plans.specs.Fits.{AreKernels, IsNoded}
use Rattle.link_plans.proofs.Lemmas.{links_keep}
use Rattle.link_plans.proofs.Calls.Follows.{links_lead_on}
use Rattle.link_plans.proofs.Renewals.Moves.{blocks-append, fits-append, lists-append}
use Rattle.link_plans.specs.Renewals.{prios_past}
use Rattle.kernel_calls.specs.Stepping.{HasPrios, prios_over}
use Rattle.kernel_calls.proofs.LinkFacts.{AreLinksOf, over-past}

module _ (n : ℕ) (prios : List Prio) (ks : List Link) (l : Lists) (e : Effect) (all : AreLinksOf e n prios ks l) where
  -- the kernel after an effect has the lists of nodes that its links leave
  pub lists-kernel : (k : Kernel) → n ≡ length k.objects → IsLinked k → AreKernels k l → Leads k e → length e.kernel.objects ≡ length k.objects → AreKernels e.kernel (lists_after prios ks l)
  lists-kernel k size v a leads objects =
      let fits : AreFit (length k.objects) prios ks l = subst (λ m. AreFit m prios ks l) size all.fits in
      record {
        lists =
            ap (λ m. seen_lists m (lists_after prios ks l)) objects
            ∙ links_lead_on prios ks k l v a fits
            ∙ ap (λ bs. after (in_order bs (lists_of k)) (lists_of k)) all.blocks
            ∙ ap (λ (h : Halves). h.forward) leads.lists;
        past = subst (λ m. (o : ℕ) → m ≤ o → nodes.list_at (lists_after prios ks l).pend o ≡ []) (sym objects) (links_keep (length k.objects) prios ks l fits a.past);
        noded = all.noded;
      }

  -- the links of the next effect stand behind its links
  pub compose : (js : List Link) (g : Effect) (o : Outcome) → AreLinksOf g n (prios_over ks prios) js (lists_after prios ks l) → AreLinksOf (record { kernel = g.kernel; outcome = o; blocks = e.blocks ++ g.blocks }) n prios (ks ++ js) l
  compose js g o next =
      let same = over-past ks prios in
      let lists : lists_after prios (ks ++ js) l ≡ lists_after (prios_over ks prios) js (lists_after prios ks l) =
      lists-append prios ks js l ∙ ap (λ ps. lists_after ps js (lists_after prios ks l)) (sym same) in
      record {
        fits = fits-append n prios ks js l all.fits (subst (λ ps. AreFit n ps js (lists_after prios ks l)) same next.fits);
        blocks =
            blocks-append prios ks js
            ∙ ap (λ bs. bs ++ task_blocks (prios_past prios ks) js) all.blocks
            ∙ ap (λ ps. e.blocks ++ task_blocks ps js) (sym same)
            ∙ ap (λ bs. e.blocks ++ bs) next.blocks;
        noded = subst (λ m. IsNoded g.kernel.tasks m.pend) (sym lists) next.noded;
        listed = subst (HasPrios g.kernel) (sym (over-append ks js prios)) next.listed;
      }
    where
      over-append : (us bs : List Link) (ps : List Prio) → prios_over (us ++ bs) ps ≡ prios_over bs (prios_over us ps)
      over-append [] bs ps = refl
      over-append (u ∷ us) bs ps = over-append us bs (prios_after u ps)
