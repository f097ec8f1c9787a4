use Rattle.std.proofs.Common.{◌≡◌, ◌∙◌, ◌<◌, ℕ, Bool, false, List, length, refl, ap, ap₂, sym, Option, Some, None, arith}
use Rattle.std.specs.Prelude.{slice_get, slice_index_or, is_some}
use Rattle.std.proofs.lemmas.Option.{slice_get_read}
use Rattle.tam_word.proofs.Each.{get-past}
use Rattle.tam_graph.specs.Graphs.{Graph}
use Rattle.tam_world.specs.Worlds.{World, has_word, has_entered}
use Rattle.tam_world.specs.declared.need.Need.{Need}
use Rattle.tam_world.specs.Needs.{is_met, or_never}
use Rattle.tam_eval.specs.GraphRuns.{is_enabled}
use Rattle.tam_eval.specs.Standing.{IsStanding}
use Rattle.tam_eval.specs.declared.standing.Standing.{Standing}
use Rattle.tam_eval.proofs.Enabled.{enabled-parts}
use Rattle.tam_eval.proofs.standing.Standing.is_enabled.Goals as goal

-- a node may fire where its need is met
enabled-met : (g : Graph) (w : World) (i x : ℕ) (s : Standing) (o : Option Need) → IsStanding g w i s → slice_get s.needs.now x ≡ o
    → is_met (has_entered w i) (has_word w i) (or_never o) ≡ is_enabled g w i x
enabled-met g w i x s o standing read =
    ap (λ (n : Option Need). is_met (has_entered w i) (has_word w i) (or_never n)) (sym read)
    ∙ (standing.needs x).met (has_entered w i) (has_word w i) ∙ sym (enabled-parts g w i x)

pub returns-in-None : goal.returns-in-None
returns-in-None c = record {
  value = λ g w i standing.
      enabled-met g w i c.args.node c.args.self.now None standing
      (get-past c.args.self.now.needs.now c.args.node (omega (arith, c.in-None.ensures.lookup)));
}

pub returns-in-Some : goal.returns-in-Some
returns-in-Some c =
    let s = c.args.self.now in
    let need = c.in-Some.need.now in
    let inside : c.args.node < length s.needs.now = c.in-Some.ensures.lookup.3.0 in
    let read : slice_get s.needs.now c.args.node ≡ Some need =
    slice_get_read s.needs.now (length s.needs.now) c.args.node need refl inside c.in-Some.ensures.lookup.1 in
    record {
      value = λ g w i standing.
          c.meets.ensures.value
          ∙ ap₂ (λ (e : List Bool) (ws : List (Option ℕ)). is_met (λ b. slice_index_or e b false) (λ x. is_some (slice_index_or ws x None)) need)
          standing.entered standing.words
          ∙ enabled-met g w i c.args.node s (Some need) standing read;
    }
