-- A map of labels finds what its entries have.
use Rattle.std.proofs.Common.{◌≡◌, ℕ, Bool, true, false, cond, List, [], ◌∷◌, ◌++◌, Some, None, refl, sym, ap, ◌∙◌}
use Rattle.std.proofs.Common.{Bor}
use Rattle.indexmap.specs.IndexMap.{insert_entry}
use Rattle.indexmap.proofs.MapLemmas.{insert_entry-absent, absent_from_lookup}
use Rattle.std.proofs.lemmas.List.{map-append}
use Rattle.std.specs.Str.{bytes_eq}
use Rattle.std.specs.Map.{lookup}
use Rattle.tam_word.specs.Lists.{same_bytes}
use Rattle.tam_text.proofs.SameBytes.{same_bytes_is}
use Rattle.rv_asm.specs.Faults.{found}
use Rattle.rv_asm.specs.PassView.{labels_seen}

-- one choice is the other
chosen : {X : Type 0} (t : Bool) (x y : X) → cond t x y ≡ (elim t [ true ↦ x | false ↦ y ])
chosen true x y = refl
chosen false x y = refl

-- a look-up of the bytes finds what the labels have
pub found-lookup : (name : List ℕ) (es : List (Bor (List ℕ) × ℕ)) → lookup (λ k. bytes_eq name k.now) es ≡ found name (labels_seen es)
found-lookup name [] = refl
found-lookup name (e ∷ es) =
    ap (λ r. cond (bytes_eq name e.0.now) (Some e.1) r) (found-lookup name es)
    ∙ ap (λ t. cond t (Some e.1) (found name (labels_seen es))) (sym (same_bytes_is name e.0.now))
    ∙ chosen (same_bytes name e.0.now) (Some e.1) (found name (labels_seen es))

-- a name that isn't found goes last
pub put-new : (name : Bor (List ℕ)) (n : ℕ) (es new : List (Bor (List ℕ) × ℕ)) → found name.now (labels_seen es) ≡ None
    → new ≡ insert_entry (λ x y. bytes_eq x.now y.now) es name n → labels_seen new ≡ labels_seen es ++ (name.now, n) ∷ []
put-new name n es new none is =
    let absent = absent_from_lookup (λ k. bytes_eq name.now k.now) es (found-lookup name.now es ∙ none) in
    ap labels_seen (is ∙ insert_entry-absent (λ x y. bytes_eq x.now y.now) name n es absent)
    ∙ map-append (λ (e : Bor (List ℕ) × ℕ). (e.0.now, e.1)) es ((name, n) ∷ [])
