use Rattle.std.proofs.Common.{◌≡◌, ◌∙◌, sym, ap, ◌++◌, ◌∷◌, [], ◌<◌, ℕ, List, length, arith}
use Rattle.std.specs.declared.vec.Vec.{Vec}
use Rattle.std.specs.declared.alloc.Global.{Global}
use Rattle.std.proofs.lemmas.Option.{slice_get_read}
use Rattle.tam_word.specs.Lists.{where_so}
use Rattle.std.specs.Prelude.{◌==◌, slice_get, Some, refl}
use Rattle.tam_world.specs.Tables.{listed, items_or_none}
use Rattle.tam_world.proofs.TableLemmas.{listed-longer, listed-added}
use Rattle.tam_world.proofs.table.add.Goals as goal

pub loop-alloc-preserved : goal.loop-alloc-preserved
loop-alloc-preserved c = λ z.
    let longer : c.push.new.self.items ≡ c.loop-alloc.lists.items ++ c.new.result ∷ [] = c.in_ok-push.ensures.items in
    ap (λ (l : List (Vec ℕ Global)). listed l z) longer ∙ listed-longer c.loop-alloc.lists.items c.new.result c.new.ensures.items z ∙ c.loop-alloc.invariant z

pub returns : goal.returns
returns c = record {
  ok = λ z.
      let lists = c.loop-alloc.lists.items in
      let inside : c.args.place < length lists = omega (arith, c.loop-alloc.lists.ok.0, c.len.ensures, c.loop-alloc-test.false) in
      let read : slice_get lists c.args.place ≡ Some c.index_mut-list.result.now =
      slice_get_read lists (length lists) c.args.place c.index_mut-list.result.now refl inside c.index_mut-list.ensures.value in
      let before : listed lists c.args.place ≡ c.index_mut-list.result.now.items = ap items_or_none read in
      let longer : c.push-2.new.self.items ≡ c.index_mut-list.result.now.items ++ c.args.node ∷ [] = c.in_ok-push-2.ensures.items in
      listed-added lists c.args.place c.args.node c.push-2.new.self inside (longer ∙ ap (λ (l : List ℕ). l ++ c.args.node ∷ []) (sym before)) z
      ∙ ap (λ (l : List ℕ). l ++ where_so (c.args.place == z) c.args.node) (c.loop-alloc.invariant z);
}
