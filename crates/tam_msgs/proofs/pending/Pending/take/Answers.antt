use Rattle.tam_msgs.proofs.Taking.{taken}
use Rattle.tam_msgs.proofs.pending.Pending.take.Goals as goal

pub returns-clause-rest : goal.returns-clause-rest
returns-clause-rest c =
    let left = taken c.remove.result c.unwrap-2.result c.remove.new.self.items c.self.inside.queue.items c.args.place in
    rw (← c.self.view_is) (left c.unwrap-2.ensures c.remove.ensures.items)
