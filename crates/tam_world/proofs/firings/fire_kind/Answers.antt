use Rattle.tam_world.proofs.firings.fire_kind.Goals as goal

pub returns-in-Op : goal.returns-in-Op
returns-in-Op c = record { value = rw c.in-Op.is (c.fire_op.ensures.value c.args.program.now) }

pub returns-in-Seq : goal.returns-in-Seq
returns-in-Seq c = record { value = rw c.in-Seq.is (c.fire_seq.ensures.value c.args.program.now) }

pub returns-in-Fetch : goal.returns-in-Fetch
returns-in-Fetch c = record { value = rw c.in-Fetch.is (c.fire_fetch.ensures.value c.args.program.now) }

pub returns-in-Store : goal.returns-in-Store
returns-in-Store c = record { value = rw c.in-Store.is (c.fire_store.ensures.value c.args.program.now) }
