-- A table finds what its entries have.
use Rattle.std.proofs.Common.{◌≡◌, ℕ, Bool, true, false, cond, List, [], ◌∷◌, ◌++◌, map, Option, Some, None, refl, sym, ap, ◌∙◌}
use Rattle.std.proofs.Common.{Bor, true≢false}
use Rattle.std.specs.Prelude.{is_none}
use Rattle.indexmap.specs.IndexMap.{insert_entry}
use Rattle.indexmap.proofs.MapLemmas.{insert_entry-absent, absent_from_lookup}
use Rattle.std.proofs.lemmas.List.{map-append}
use Rattle.std.specs.Str.{bytes_eq}
use Rattle.std.specs.Map.{lookup}
use Rattle.tam_word.specs.Lists.{same_bytes}
use Rattle.tam_text.proofs.SameBytes.{same_bytes_is}
use Rattle.tam_read.specs.declared.table.Made.{Made}
use Rattle.tam_read.specs.Tables.{Entries, found, with_entry, put_in}

-- the entries without their slices
abbrev pub seen_entries : List (Bor (List ℕ) × Made) → Entries
seen_entries es = map (λ e. (e.0.now, e.1)) es

-- one choice is the other
chosen : {X : Type 0} (t : Bool) (x y : X) → cond t x y ≡ (elim t [ true ↦ x | false ↦ y ])
chosen true x y = refl
chosen false x y = refl

-- a look-up of the bytes finds what the entries have
pub found-lookup : (name : List ℕ) (es : List (Bor (List ℕ) × Made)) → lookup (λ k. bytes_eq name k.now) es ≡ found name (seen_entries es)
found-lookup name [] = refl
found-lookup name (e ∷ es) =
    ap (λ r. cond (bytes_eq name e.0.now) (Some e.1) r) (found-lookup name es)
    ∙ ap (λ t. cond t (Some e.1) (found name (seen_entries es))) (sym (same_bytes_is name e.0.now))
    ∙ chosen (same_bytes name e.0.now) (Some e.1) (found name (seen_entries es))

-- a name that isn't found goes last
pub put-absent : (name : List ℕ) (m : Made) (es : Entries) → found name es ≡ None → put_in name m es ≡ es ++ (name, m) ∷ []
put-absent name m es none = ap (with_entry name m es) none

-- a name put into a map where it isn't found goes last
pub put-new : (name : Bor (List ℕ)) (m : Made) (es new : List (Bor (List ℕ) × Made)) → found name.now (seen_entries es) ≡ None
    → new ≡ insert_entry (λ x y. bytes_eq x.now y.now) es name m → seen_entries new ≡ put_in name.now m (seen_entries es)
put-new name m es new none is =
    let absent = absent_from_lookup (λ k. bytes_eq name.now k.now) es (found-lookup name.now es ∙ none) in
    ap seen_entries (is ∙ insert_entry-absent (λ x y. bytes_eq x.now y.now) name m es absent)
    ∙ map-append (λ (e : Bor (List ℕ) × Made). (e.0.now, e.1)) es ((name, m) ∷ [])
    ∙ sym (put-absent name.now m (seen_entries es) none)

-- what isn't there
pub none-there : {X : Type 0} (o : Option X) → is_none o ≡ true → o ≡ None
none-there None e = refl
none-there (Some x) e = absurd (true≢false (sym e))
