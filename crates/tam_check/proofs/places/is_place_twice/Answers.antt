use Rattle.std.proofs.Common.{◌≡◌, ◌∙◌, sym, ap, Some, None}
use Rattle.tam_graph.specs.Graphs.{block_at, kind_at}
use Rattle.tam_check.specs.Interfaces.{interface_of}
use Rattle.tam_check.specs.Tables.{is_something}
use Rattle.tam_check.proofs.InterfaceTests.{never-twice, twice-below}
use Rattle.tam_check.proofs.Far.{near-place, own-place}
use Rattle.tam_check.proofs.places.is_place_twice.Goals as goal

pub returns-in-None : goal.returns-in-None
returns-in-None c =
    let none : interface_of (block_at c.args.code.now c.args.x) (kind_at c.args.code.now c.args.x) ≡ None =
    rw (← c.block_at.ensures.value, ← c.kind_at.ensures.value) (sym c.of.ensures.value ∙ c.in-None.is) in
    record { value = sym (never-twice c.args.code.now c.args.x none) }

pub returns-in-Some : goal.returns-in-Some
returns-in-Some c =
    let own : interface_of (block_at c.args.code.now c.args.x) (kind_at c.args.code.now c.args.x) ≡ Some (c.in-Some.interface, c.in-Some.place) =
    rw (← c.block_at.ensures.value, ← c.kind_at.ensures.value) (sym c.of.ensures.value ∙ c.in-Some.is) in
    let stands = own-place c.args.code.now c.args.x c.in-Some.interface c.in-Some.place own in
    let near = near-place c.args.code.now c.block_at.ensures.of_text c.args.x c.requires.in_range c.in-Some.interface c.in-Some.place stands in
    let shows = (c.requires.earlier.each c.in-Some.interface c.in-Some.place near.0 near.1).place in
    record {
      value = c.is_something.ensures.value ∙ (ap is_something c.look.ensures.value
          ∙ (shows ∙ sym (twice-below c.args.code.now c.args.x c.in-Some.interface c.in-Some.place own)));
    }
