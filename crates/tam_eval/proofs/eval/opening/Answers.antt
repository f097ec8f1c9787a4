use Rattle.std.proofs.Common.{◌≡◌, ◌+◌, ◌∙◌, sym, subst, true, ap₂, arith, ap, ◌∷◌, [], ℕ, List, map, refl}
use Rattle.std.specs.Prelude.{slice_index_or, zip, flat_map, length}
use Rattle.tam_word.specs.Lists.{below, all_of}
use Rattle.tam_msgs.specs.declared.message.Message.{Message}
use Rattle.tam_graph.specs.Graphs.{Graph, code_of}
use Rattle.tam_world.specs.Worlds.{World, argument_message, opening}
use Rattle.tam_world.specs.Kept.{pairs_of}
use Rattle.tam_world.specs.Takers.{starters_of}
use Rattle.tam_world.specs.Takers.{firers_in, inlets_in}
use Rattle.tam_eval.specs.GraphRuns.{is_enabled, joins, nothing_begun}
use Rattle.tam_eval.specs.Waiting.{vertices_left}
use Rattle.tam_eval.specs.Events.{opening_state}
use Rattle.tam_eval.proofs.OpeningCounts.{opening-counts, opening-may, arguments-wish_none}
use Rattle.tam_eval.proofs.Joins.{joins-opening_starters}
use Rattle.tam_eval.proofs.eval.opening.Goals as goal

-- the parts of the first state
opening-is : (g : Graph) (args : List ℕ) (world : World) (ready : List (ℕ × ℕ)) (pending : List Message)
    → world ≡ opening g → ready ≡ map (λ z. (0, z)) (starters_of (code_of g g.main)) → pending ≡ flat_map (argument_message g) (zip (below (length args)) args)
    → record { world = world; ready = ready; pending = pending; events = 0 } ≡ opening_state g args
opening-is g args world ready pending a b c = rw (a, b, c, joins-opening_starters g) refl

-- how many vertices are counted
counted-so : {a b c d : List ℕ} → a ≡ b → c ≡ d → length a + length c ≡ length b + length d
counted-so e f = ap₂ (λ x y. length x + length y) e f

pub returns : goal.returns
returns c =
    let g = c.args.program.now in
    let world : c.in_ok-world.world ≡ opening g = rw c.requires.main at c.in_ok-world.ensures.value in
    let ready : pairs_of c.ready_all.new.ready.items ≡ map (λ z. (0, z)) (starters_of (code_of g g.main)) =
    rw (c.new-ready.ensures.items, c.starters.ensures.value, c.requires.main) at c.in_ok-ready_all.ensures.ok in
    let pending : c.send_all.new.pending.messages ≡ flat_map (argument_message g) (zip (below (length c.args.args.now)) c.args.args.now) =
    rw (c.new-pending.ensures.empty, c.deref.ensures.value, c.in_ok-argument_messages.ensures.value) at c.in_ok-send_all.ensures.ok in
    let joined : pairs_of c.ready_all.new.ready.items ≡ joins g nothing_begun (opening g) = ready ∙ sym (joins-opening_starters g) in
    let n = length c.firers.result.now + length c.block_inlets.result.now in
    let count : n ≡ length (firers_in (code_of g g.main) 0) + length (inlets_in (code_of g g.main) 0) =
    counted-so (rw c.requires.main at c.firers.ensures.value) (rw c.requires.main at c.block_inlets.ensures.value) in
    let left : c.begin.new.self ≡ n ∷ [] = rw c.none-left.ensures.value at c.in_ok-begin.ensures.ok in
    record {
      value = opening-is g c.args.args.now c.in_ok-world.world (pairs_of c.ready_all.new.ready.items) c.send_all.new.pending.messages world ready pending;
      counted = record {
        counts = λ i. ap (λ (l : List ℕ). slice_index_or l i 0) left ∙ opening-counts g n count i
            ∙ sym (ap₂ (λ (w : World) (r : List (ℕ × ℕ)). vertices_left g w r i) world joined);
        one_each = ap (λ (l : List ℕ). length l) left ∙ sym (ap (λ (w : World). length w.activations) world);
        ready = subst (λ (w : World). all_of (λ v. is_enabled g w v.0 v.1) (pairs_of c.ready_all.new.ready.items) ≡ true) (sym world)
            (subst (λ (r : List (ℕ × ℕ)). all_of (λ v. is_enabled g (opening g) v.0 v.1) r ≡ true) (sym joined) (opening-may g));
      };
      begun = record {
        root = rw world (omega arith);
        no_wish = λ k m at. arguments-wish_none g c.args.args.now k m (rw pending at at);
      };
    }
