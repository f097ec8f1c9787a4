use Rattle.std.proofs.Common.{rules, refl, ap, ◌∙◌, map, ℕ}
use Rattle.std.specs.Prelude.{Vec}
use Rattle.std.specs.declared.alloc.Global.{Global}
use Rattle.std.proofs.Math.Nat.{le_refl}
use Rattle.tam_edge.specs.Entries.{Entry, pairs_by}
use Rattle.std.specs.Vec.{with_items}
use Rattle.tam_edge.specs.MemFiles.{WantsMemory}
use Rattle.tam_edge.specs.Held.{reversed_items}
use Rattle.tam_edge.proofs.EntriesLemmas.{names-pairs_by, value_by-none}
use Rattle.tam_edge.proofs.MemFilesLemmas.{lent_back, is_to_fail, is_not_to_fail, same_memory}
use Rattle.tam_edge.proofs.mem_files.MemFilesFiles.read.Goals as goal

pub returns-in-Some-clause-exact : goal.returns-in-Some-clause-exact
returns-in-Some-clause-exact c =
    let tested = rw (c.deref.ensures.value, c.next_count-call.ensures.value) at c.is_to_fail-fails.ensures.value in
    let held = rw c.deref_mut.ensures.value at c.in-Some.ensures.some.1 in
    let back = lent_back c.self.inside.files _ c.give_unless.new.files c.deref_mut.ensures.value c.give_unless.auto.files c.deref_mut.ensures.len in
    let names = ap (map (λ (e : Entry (Vec ℕ Global)). e.0)) back ∙ c.in-Some.ensures.same_names ∙ ap (map (λ e. e.0)) c.deref_mut.ensures.value in
    rw (← c.self.view_is) (record {
      next_end = c.count_end-self-inside.ensures.value;
      not_to_fail = is_not_to_fail _ _ _ tested _ _ c.in-Some.ensures.some.0 held;
      count_is = rw (← c.deref_mut.ensures.value) c.in-Some.ensures.fits;
      next_call = c.next_count-call.ensures.value;
      same_fail = refl;
      same_names = names-pairs_by reversed_items _ _ names;
      same_faults = refl;
      same_most = refl;
    })

pub returns-clause-counted : goal.returns-clause-counted
returns-clause-counted c = rw (← c.self.view_is) (c.in_ok-note_fault.ensures.later, rw c.in_ok-note_fault.ensures.counted (le_refl _))

pub returns-clause-exact : goal.returns-clause-exact
returns-clause-exact c =
    let tested = rw (c.deref.ensures.value, c.next_count-call.ensures.value) at c.is_to_fail-fails.ensures.value in
    let fails = rw c.deref_mut.ensures.value at c.in_default.ensures.none.0 in
    let back = lent_back c.self.inside.files _ c.give_unless.new.files c.deref_mut.ensures.value c.give_unless.auto.files c.deref_mut.ensures.len in
    rw (← c.self.view_is) (record {
      to_fail = is_to_fail _ _ _ tested _ _ fails;
      raised = c.in_ok-note_fault.ensures.counted;
      next_call = c.next_count-call.ensures.value;
      same_fail = refl;
      same_ends = refl;
      same_files = ap (pairs_by reversed_items) (back ∙ c.in_default.ensures.none.1 ∙ c.deref_mut.ensures.value);
      same_most = refl;
    })

pub returns-in_err-note_fault-clause-exact : goal.returns-in_err-note_fault-clause-exact
returns-in_err-note_fault-clause-exact c =
    let tested = rw (c.deref.ensures.value, c.next_count-call.ensures.value) at c.is_to_fail-fails.ensures.value in
    let fails = rw c.deref_mut.ensures.value at c.in_default.ensures.none.0 in
    let back = lent_back c.self.inside.files _ c.give_unless.new.files c.deref_mut.ensures.value c.give_unless.auto.files c.deref_mut.ensures.len in
    let same_files = ap (pairs_by reversed_items) (back ∙ c.in_default.ensures.none.1 ∙ c.deref_mut.ensures.value) in
    let same_faults = ap (pairs_by (λ n. n)) c.in_err-note_fault.ensures.err.0 in
    let wants : WantsMemory c.args.self.now
    (record {
      files = pairs_by reversed_items (with_items c.self.inside.files c.give_unless.new.files).items;
      fail = c.self.inside.fail.items;
      calls = c.self.inside.calls;
      ends = c.self.inside.ends;
      faults = pairs_by (λ n. n) c.note_fault.new.faults.items;
      most = c.self.inside.most;
    }) c.args.name.now = rw (← c.self.view_is) (record {
      to_fail = is_to_fail _ _ _ tested _ _ fails;
      first_fault = value_by-none (λ n. n) 0 c.args.name.now c.self.inside.faults.items c.in_err-note_fault.ensures.err.1;
      unchanged = same_memory c.self.inside.fail.items c.self.inside.calls c.self.inside.ends c.self.inside.most _ _ _ _ same_files same_faults;
    }) in
    search (rules, wants)
