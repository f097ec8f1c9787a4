use Rattle.std.proofs.Common.{◌+◌, ◌-◌, ◌^◌, ◌<◌, ◌≤◌, arith, ℕ, drop}
use Rattle.std.proofs.lemmas.List.Elements.{All-take, All-drop, All-same}
use Rattle.tam_split.specs.KeptParts.{cut_from}
use Rattle.tam_split.proofs.Stored.{unites-read, ends-fit, removed-is}
use Rattle.tam_split.proofs.parts.unite.Goals as goal

pub join_runs-requires-clause-in_range : goal.join_runs-requires-clause-in_range
join_runs-requires-clause-in_range c =
    let u = unites-read c.args.places.now c.args.ends.now.items c.args.a c.args.b c.requires.flat c.requires.in_order c.requires.in_range
    c.deref.result.now c.deref-2.result.now c.deref.ensures.value c.deref-2.ensures.value
    c.bounds-from.result.0 c.bounds-from.result.1 c.bounds-start.result.0 c.bounds-start.result.1 c.bounds-from.ensures.start c.bounds-from.ensures.end
    c.bounds-start.ensures.start c.bounds-start.ensures.end in
    (u.runs.first, u.runs.between, u.runs.second, u.runs.inside)

pub join_runs-requires-clause-rising : goal.join_runs-requires-clause-rising
join_runs-requires-clause-rising c =
    let u = unites-read c.args.places.now c.args.ends.now.items c.args.a c.args.b c.requires.flat c.requires.in_order c.requires.in_range
    c.deref.result.now c.deref-2.result.now c.deref.ensures.value c.deref-2.ensures.value
    c.bounds-from.result.0 c.bounds-from.result.1 c.bounds-start.result.0 c.bounds-start.result.1 c.bounds-from.ensures.start c.bounds-from.ensures.end
    c.bounds-start.ensures.start c.bounds-start.ensures.end in
    u.runs.apart

pub overflow_sub-end : goal.overflow_sub-end
overflow_sub-end c =
    let u = unites-read c.args.places.now c.args.ends.now.items c.args.a c.args.b c.requires.flat c.requires.in_order c.requires.in_range
    c.deref.result.now c.deref-2.result.now c.deref.ensures.value c.deref-2.ensures.value
    c.bounds-from.result.0 c.bounds-from.result.1 c.bounds-start.result.0 c.bounds-start.result.1 c.bounds-from.ensures.start c.bounds-from.ensures.end
    c.bounds-start.ensures.start c.bounds-start.ensures.end in
    u.runs.second

pub move_on-requires : goal.move_on-requires
move_on-requires c =
    let u = unites-read c.args.places.now c.args.ends.now.items c.args.a c.args.b c.requires.flat c.requires.in_order c.requires.in_range
    c.deref.result.now c.deref-2.result.now c.deref.ensures.value c.deref-2.ensures.value
    c.bounds-from.result.0 c.bounds-from.result.1 c.bounds-start.result.0 c.bounds-start.result.1 c.bounds-from.ensures.start c.bounds-from.ensures.end
    c.bounds-start.ensures.start c.bounds-start.ensures.end in
    let by = c.bounds-start.result.1 - c.bounds-start.result.0 in
    let low : by ≤ 512 = let i = u.runs.inside in let f = u.runs.few in omega arith in
    let P : ℕ → Type 0 = λ e. e + by < 2 ^ 32 in
    let all = ends-fit (cut_from 0 c.args.places.now c.args.ends.now.items) c.args.places.now c.args.ends.now.items c.requires.flat by low in
    record {
      fits = All-take P (c.args.b - c.args.a) (drop c.args.a c.deref_mut.result.now)
          (All-drop P c.args.a c.deref_mut.result.now (All-same P c.deref_mut.result.now c.args.ends.now.items c.deref_mut.ensures.value all));
    }

pub returns : goal.returns
returns c =
    let u = unites-read c.args.places.now c.args.ends.now.items c.args.a c.args.b c.requires.flat c.requires.in_order c.requires.in_range
    c.deref.result.now c.deref-2.result.now c.deref.ensures.value c.deref-2.ensures.value
    c.bounds-from.result.0 c.bounds-from.result.1 c.bounds-start.result.0 c.bounds-start.result.1 c.bounds-from.ensures.start c.bounds-from.ensures.end
    c.bounds-start.ensures.start c.bounds-start.ensures.end in
    let kept = removed-is c.deref_mut.result.now c.args.ends.now.items c.move_on.new.ends c.remove.new.self.items c.args.ends.now.len c.args.a c.args.b
    (c.bounds-start.result.1 - c.bounds-start.result.0)
    c.deref_mut.ensures.value c.args.ends.now.ok.0 c.requires.in_order c.requires.in_range c.move_on.ensures.value c.remove.ensures.items in
    record { flat = rw (c.join_runs.ensures.value, kept) u.flat }
