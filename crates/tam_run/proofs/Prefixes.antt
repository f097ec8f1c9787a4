-- Prefixes of texts that are written line by line.
use Rattle.std.proofs.Common.{◌≡◌, ◌<◌, ◌+◌, ℕ, List, [], ◌∷◌, ◌++◌, length, take, drop, get_or, Vec, sym, ◌∙◌, ap, append_assoc}
use Rattle.std.specs.Prelude.{Option, None, Some, Result, Ok, Err, OnErr}
use Rattle.std.specs.declared.alloc.Global.{Global}
use Rattle.std.proofs.lemmas.List.{append-nil, take-append-drop, take_more}
use Rattle.std.proofs.lemmas.Grind.{flat_map-append}
use Rattle.std.specs.Io.KnownBytes.{Appends}
use Rattle.std.proofs.KnownBytes.{Appends-trans}
use Rattle.tam_edge.specs.Whole.{AppendsPrefix}
use Rattle.tam_run.specs.LineLists.{bytes_of}

-- a part was taken, and then a prefix of the next
pub prefix-more : (old mid new : Option (List ℕ)) (first second rest whole : List ℕ) → Appends old mid first → AppendsPrefix mid new second
    → whole ≡ first ++ (second ++ rest) → AppendsPrefix old new whole
prefix-more old mid new first second rest whole before after is = (
  first ++ after.0,
  after.1 ++ rest,
  is ∙ ap (λ l. first ++ (l ++ rest)) after.2 ∙ ap (λ l. first ++ l) (append_assoc after.0 after.1 rest) ∙ sym (append_assoc first after.0 (after.1 ++ rest)),
  Appends-trans old mid new first after.0 before after.3,
)

-- the lines are those before place i, the one at place i, and those behind it
pub bytes-at : (xs : List (Vec ℕ Global)) (i : ℕ) (x : Vec ℕ Global) → i < length xs → x ≡ get_or xs i x
    → bytes_of xs ≡ bytes_of (take i xs) ++ (x.items ++ bytes_of (drop (i + 1) xs))
bytes-at xs i x l e =
    ap bytes_of (sym (take-append-drop (i + 1) xs)) ∙ flat_map-append (λ y. y.items) (take (i + 1) xs) (drop (i + 1) xs)
    ∙ ap (λ l. l ++ bytes_of (drop (i + 1) xs)) upto ∙ append_assoc (bytes_of (take i xs)) x.items (bytes_of (drop (i + 1) xs))
  where
    upto : bytes_of (take (i + 1) xs) ≡ bytes_of (take i xs) ++ x.items
    upto = ap bytes_of (take_more xs i x l) ∙ ap (λ y. bytes_of (take i xs ++ y ∷ [])) (sym e) ∙ flat_map-append (λ y. y.items) (take i xs) (x ∷ [])
        ∙ ap (λ l. bytes_of (take i xs) ++ l) (append-nil x.items)

-- what holds anyway holds where there is an error
pub on-err : {T E P : Type 0} (r : Result T E) → P → OnErr r P
on-err (Ok x) p = tt
on-err (Err e) p = p

-- nothing was taken
pub nothing-taken : (old : Option (List ℕ)) → Appends old old []
nothing-taken None = tt
nothing-taken (Some xs) = sym (append-nil xs)
