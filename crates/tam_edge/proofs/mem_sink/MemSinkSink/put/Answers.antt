use Rattle.std.proofs.Common.{refl, inl, inr, arith}
use Rattle.tam_edge.proofs.mem_sink.MemSinkSink.put.Goals as goal
use Rattle.tam_edge.proofs.mem_sink.MemSinkSink.put.Goals.{then-count-eq0-via-then-count-eq0, then-count-eq0-via-else-count-eq0+then-is_to_fail}

pub returns-then-count-eq0-clause-exact : goal.returns-then-count-eq0-clause-exact
returns-then-count-eq0-clause-exact c = rw (← c.self.view_is) (record {
  to_fail = elim c.then-count-eq0.branch [
    | then-count-eq0-via-then-count-eq0 w ↦
        inr (omega (arith, c.requires, c.at_most-count.ensures.none.0 w.if-count-eq0.true, c.min.ensures, c.len.ensures, c.self.invariant.0))
    | then-count-eq0-via-else-count-eq0+then-is_to_fail w ↦
        inl (rw (← c.next_count-self-inside.ensures.value, ← w.deref.ensures.value) (w.is_to_fail.ensures.value.0 w.if-is_to_fail.true))
  ];
  now_is = rw (c.next_count-self-inside.ensures.value, c.next_count-self-inside-then-count-eq0.ensures.value) refl;
})
