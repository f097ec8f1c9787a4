use Rattle.std.proofs.Common.{◌≡◌, ◌<◌, ℕ, [], ◌++◌, ◌∙◌, sym, ap, subst, arith, length, take, drop}
use Rattle.std.proofs.Common.{List, map}
use Rattle.tam_word.specs.Lists.{below}
use Rattle.std.proofs.Math.Seq.{take-append_seam}
use Rattle.tam_graph.specs.Edges.{reaches}
use Rattle.tam_sets.specs.Sets.{places_where, with_place}
use Rattle.tam_quotient.specs.Tables.{set_at}
use Rattle.tam_quotient.specs.Spreads.{renamed, AreBelow}
use Rattle.tam_quotient.proofs.Tabling.{alone-reaches, get-table, length-table, table-is}
use Rattle.tam_quotient.proofs.spread.spread.Goals as goal

-- as many as there are numbers
count : (lent items : List (List ℕ)) (n : ℕ) → lent ≡ items → items ≡ map (λ k. with_place k []) (below n) → length lent ≡ n
count lent items n e f = ap length (e ∙ f) ∙ length-table (λ k. with_place k []) n

-- each alone
alone : (lent items : List (List ℕ)) (n k : ℕ) → lent ≡ items → items ≡ map (λ k. with_place k []) (below n) → k < n
    → set_at lent k ≡ places_where (reaches [] k)
alone lent items n k e f h = ap (λ xs. set_at xs k) (e ∙ f) ∙ (get-table (λ k. with_place k []) n k [] h ∙ alone-reaches k)

pub grow_by_all-requires-clause-few : goal.grow_by_all-requires-clause-few
grow_by_all-requires-clause-few c =
    let e = count c.deref_mut.result.now c.in_ok-sets.sets.items c.args.n c.deref_mut.ensures.value c.in_ok-sets.ensures.value in
    omega (arith, e, c.requires.few)

pub grow_by_all-requires-clause-named : goal.grow_by_all-requires-clause-named
grow_by_all-requires-clause-named c =
    let e = count c.deref_mut.result.now c.in_ok-sets.sets.items c.args.n c.deref_mut.ensures.value c.in_ok-sets.ensures.value in
    subst (λ m. AreBelow m c.args.edges.now c.args.names.now) (sym e) c.requires.named

pub grow_by_all-requires-clause-alone : goal.grow_by_all-requires-clause-alone
grow_by_all-requires-clause-alone c k h =
    let e = count c.deref_mut.result.now c.in_ok-sets.sets.items c.args.n c.deref_mut.ensures.value c.in_ok-sets.ensures.value in
    alone c.deref_mut.result.now c.in_ok-sets.sets.items c.args.n k c.deref_mut.ensures.value c.in_ok-sets.ensures.value (omega (arith, h, e))

pub returns : goal.returns
returns c =
    let e = count c.deref_mut.result.now c.in_ok-sets.sets.items c.args.n c.deref_mut.ensures.value c.in_ok-sets.ensures.value in
    let lent : length c.grow_by_all.new.sets ≡ c.args.n = omega (arith, e, c.grow_by_all.auto.sets) in
    let whole : length c.in_ok-sets.sets.items ≡ c.args.n = ap length c.in_ok-sets.ensures.value ∙ length-table (λ k. with_place k []) c.args.n in
    let size : c.in_ok-sets.sets.len ≡ length c.grow_by_all.new.sets = omega (arith, c.in_ok-sets.sets.ok, whole, lent) in
    let back : take c.in_ok-sets.sets.len (c.grow_by_all.new.sets ++ drop (length c.grow_by_all.new.sets) c.in_ok-sets.sets.items) ≡ c.grow_by_all.new.sets =
    ap (λ m. take m (c.grow_by_all.new.sets ++ drop (length c.grow_by_all.new.sets) c.in_ok-sets.sets.items)) size
    ∙ take-append_seam c.grow_by_all.new.sets (drop (length c.grow_by_all.new.sets) c.in_ok-sets.sets.items) in
    record {
      value = back ∙ table-is c.grow_by_all.new.sets (λ k. places_where (reaches (renamed c.args.names.now c.args.edges.now) k)) c.args.n lent
          (λ k h. c.grow_by_all.ensures.value k (omega (arith, h, e)));
    }
