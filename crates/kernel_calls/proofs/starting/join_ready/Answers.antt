use Rattle.std.proofs.Common.{◌<◌, true, ◌∷◌, [], ◌++◌, ap, sym, refl, rules, subst, take, ◌∙◌, arith}
use Rattle.std.proofs.lemmas.List.{length-take-le, take_more}
use Rattle.app_image.specs.declared.records.TaskDef.{TaskDef}
use Rattle.kern_model.specs.Micro.{Halves, whole}
use Rattle.micro_steps.specs.declared.link.Link.TheVariants as link
use Rattle.micro_steps.specs.Whole.{FitsLink}
use Rattle.kernel_calls.proofs.StartFacts.{joined_by, joined_by-all, joined_by-fits, joined_by-none, joins_next}
use Rattle.kernel_calls.proofs.starting.join_ready.Goals as goal

pub loop-index-init : goal.loop-index-init
loop-index-init g c =
    record {
      halves = c.requires.empty ∙ ap whole joined_by-none;
      start = c.requires.found ∙ ap (λ (h : Halves). h.forward) (sym c.requires.empty);
      prios = search rules;
    }

pub make-requires : goal.make-requires
make-requires g c =
    let i = c.loop-index.index in
    let ds = c.args.tasks.now in
    let now = c.loop-index.invariant.halves in
    let lists = ap (λ (h : Halves). h.forward) now in
    let d = c.index-tasks-index.result in
    let low : d.prio < 63 = subst (λ (e : TaskDef). e.prio < 63) (sym c.index-tasks-index.is) (c.requires.small i d c.loop-index-test.true) in
    record {
      whole = now ∙ ap whole (sym lists);
      node = tt;
      fits = subst (FitsLink 64 (link.Ready (record { 0 = i }) (record { 0 = d.prio }) true)) (sym lists) (joined_by-fits (record { 0 = i }) (record { 0 = d.prio }) true (take i ds) (omega (arith, length-take-le i ds c.loop-index.auto.index-end)) (omega (arith, c.requires.few, c.loop-index-test.true)) (omega arith));
    }

pub loop-index-preserved : goal.loop-index-preserved
loop-index-preserved g c =
    let i = c.loop-index.index in
    let ds = c.args.tasks.now in
    let d = c.index-tasks-index.result in
    let low : d.prio < 63 = subst (λ (e : TaskDef). e.prio < 63) (sym c.index-tasks-index.is) (c.requires.small i d c.loop-index-test.true) in
    let more = take_more ds i d c.loop-index-test.true ∙ ap (λ e. take i ds ++ e ∷ []) (sym c.index-tasks-index.is) in
    record {
      halves =
          joins_next c.loop-index.steps.prios (record { 0 = i }) (record { 0 = d.prio }) (take i ds) d c.loop-index.steps.halves c.make.new.steps.halves c.loop-index.invariant.halves c.make.ensures.halves (sym (length-take-le i ds c.loop-index.auto.index-end)) refl low
          ∙ ap (λ es. whole (joined_by es)) (sym more);
      start = c.make.ensures.start;
      prios = c.make.ensures.prios ∙ c.loop-index.invariant.prios;
    }

pub returns : goal.returns
returns g c =
    record {
      halves = c.loop-index.invariant.halves ∙ ap whole (joined_by-all c.args.tasks.now c.loop-index.index c.loop-index-test.false);
      start = c.loop-index.invariant.start;
      prios = c.loop-index.invariant.prios;
    }
