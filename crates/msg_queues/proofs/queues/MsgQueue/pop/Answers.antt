use Rattle.std.proofs.Common.{◌≡◌, ap, sym, subst, drop}
use Rattle.msg_queues.specs.Stored.{Queue, AreStored, Exchanges, messages_under}
use Rattle.msg_queues.proofs.KeyLaws.{first-present, taken-messages, taken-stored, taken-exchanges}
use Rattle.msg_queues.proofs.queues.MsgQueue.pop.Goals as goal

pub take-requires : goal.take-requires
take-requires c = first-present c.args.self.now.keys c.args.pool.now c.take_key-key.result c.requires.stored c.take_key-key.ensures.key

pub returns-clause-messages : goal.returns-clause-messages
returns-clause-messages c =
    let keys = c.args.self.now.keys in
    let p = c.args.pool.now in
    let q = c.take.new.self in
    let these : c.take_key-key.new.self.keys ≡ drop 1 keys = ap (λ (s : Queue). s.keys) c.take_key-key.ensures.left in
    subst (λ ks. messages_under ks q ≡ drop 1 (messages_under keys p)) (sym these)
    (taken-messages keys p q c.take_key-key.result c.requires.stored c.take_key-key.ensures.key c.take.ensures.gone c.take.ensures.others)

pub returns-clause-stored : goal.returns-clause-stored
returns-clause-stored c =
    let keys = c.args.self.now.keys in
    let p = c.args.pool.now in
    let q = c.take.new.self in
    let these : c.take_key-key.new.self.keys ≡ drop 1 keys = ap (λ (s : Queue). s.keys) c.take_key-key.ensures.left in
    subst (λ ks. AreStored ks q) (sym these)
    (taken-stored keys p q c.take_key-key.result c.requires.stored c.take_key-key.ensures.key c.take.ensures.gone c.take.ensures.others)

pub returns-clause-exchanged : goal.returns-clause-exchanged
returns-clause-exchanged c =
    let keys = c.args.self.now.keys in
    let p = c.args.pool.now in
    let q = c.take.new.self in
    let these : c.take_key-key.new.self.keys ≡ drop 1 keys = ap (λ (s : Queue). s.keys) c.take_key-key.ensures.left in
    subst (λ ks. Exchanges keys ks p q) (sym these)
    (taken-exchanges keys p q c.take_key-key.result c.requires.stored c.take_key-key.ensures.key c.take.ensures.gone c.take.ensures.others)
