use Rattle.std.proofs.Common.{◌≡◌, ap, sym, subst}
use Rattle.kern_model.specs.Queues.{stored}
use Rattle.msg_queues.specs.Stored.{Queue, AreStored, Exchanges, messages_under, with_key}
use Rattle.msg_queues.proofs.KeyLaws.{pushed-messages, pushed-stored, pushed-exchanges}
use Rattle.msg_queues.proofs.queues.MsgQueue.push.Goals as goal

pub returns-clause-messages : goal.returns-clause-messages
returns-clause-messages c =
    let keys = c.args.self.now.keys in
    let p = c.args.pool.now in
    let q = c.store-key.new.self in
    let e = c.store-key.ensures in
    let these : c.add_key.new.self.keys ≡ with_key c.args.first c.store-key.result keys = ap (λ (s : Queue). s.keys) c.add_key.ensures in
    subst (λ ks. messages_under ks q ≡ stored c.args.first c.args.message (messages_under keys p)) (sym these)
    (pushed-messages c.args.first c.store-key.result c.args.message keys p q c.requires.stored e.vacant e.stored e.others)

pub returns-clause-stored : goal.returns-clause-stored
returns-clause-stored c =
    let keys = c.args.self.now.keys in
    let p = c.args.pool.now in
    let q = c.store-key.new.self in
    let e = c.store-key.ensures in
    let these : c.add_key.new.self.keys ≡ with_key c.args.first c.store-key.result keys = ap (λ (s : Queue). s.keys) c.add_key.ensures in
    subst (λ ks. AreStored ks q) (sym these)
    (pushed-stored c.args.first c.store-key.result c.args.message keys p q c.requires.stored e.vacant e.stored e.others)

pub returns-clause-exchanged : goal.returns-clause-exchanged
returns-clause-exchanged c =
    let keys = c.args.self.now.keys in
    let p = c.args.pool.now in
    let q = c.store-key.new.self in
    let e = c.store-key.ensures in
    let these : c.add_key.new.self.keys ≡ with_key c.args.first c.store-key.result keys = ap (λ (s : Queue). s.keys) c.add_key.ensures in
    subst (λ ks. Exchanges keys ks p q) (sym these)
    (pushed-exchanges c.args.first c.store-key.result c.args.message keys p q c.requires.stored e.vacant e.stored e.others)
