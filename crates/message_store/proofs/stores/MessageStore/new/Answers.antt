use Rattle.std.proofs.Common.{◌≤◌, length, ap, ◌∙◌, arith}
use Rattle.app_image.specs.declared.settings.Config.{Config}
use Rattle.message_store.proofs.StartFacts.{declared_queues, declared_own, started, apart-started, long-started}
use Rattle.message_store.proofs.stores.MessageStore.new.Goals as goal

pub invariant_of-result : goal.invariant_of-result
invariant_of-result c =
    let own = c.in_ok-own.own.items in
    let tasks = c.tasks.result.now in
    let few : length tasks ≤ 60 = omega (arith, ap length c.tasks.ensures.value, c.tasks.ensures.valid.tasks_room) in
    record {
      apart = apart-started c.in_ok-pool.pool c.in_ok-queues.queues.items own c.objects.result.now tasks c.in_ok-queues.ensures c.in_ok-own.ensures;
      tasks = long-started own tasks c.in_ok-own.ensures few;
    }

pub returns : goal.returns
returns c =
    started c.in_ok-pool.pool c.in_ok-queues.queues.items c.in_ok-own.own.items c.args.image.now c.tasks.ensures.valid.tasks_room
    (c.in_ok-pool.ensures.free ∙ ap (λ (s : Config). s.pool) c.config.ensures.value)
    (c.in_ok-queues.ensures ∙ ap declared_queues c.objects.ensures.value)
    (c.in_ok-own.ensures ∙ ap declared_own c.tasks.ensures.value)
