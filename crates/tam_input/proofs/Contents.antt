-- Contents that agree with what is told, made of what was read.
use Rattle.std.proofs.Common.{◌≡◌, ℕ, ◌+◌, ◌≤◌, ◌<◌, Bool, true, false, List, [], length, refl, sym, ap, subst, ◌∙◌, true≢false, arith}
use Rattle.std.specs.Prelude.{Option, Some, None, Ok, Err}
use Rattle.tam_word.specs.Lists.{same_bytes}
use Rattle.tam_text.proofs.SameBytes.{same_equal, same_self}
use Rattle.tam_msgs.specs.declared.item.Item.{Item}
use Rattle.tam_msgs.specs.Orders.{order_of}
use Rattle.tam_words.specs.Names.{reads_file}
use Rattle.tam_words.specs.Jobs.{JobParts}
use Rattle.tam_input.specs.Told.{Files, Contents, Agrees, IsContent, OfSome}
use Rattle.tam_input.specs.Refusing.{IsOrder, from_words, from_file, unless_read, text_file, most_order_bytes}

-- told bytes, or none
abbrev or_none : Option (List ℕ) → List ℕ
or_none None = []
or_none (Some bytes) = bytes

-- the told bytes of each name, and none where none are told
abbrev pub told_or_none : Files → Contents
told_or_none left file = or_none (left file)

-- they agree with what is told
pub told-agrees : (left : Files) → Agrees left (told_or_none left)
told-agrees left file bytes e = ap or_none e

-- other bytes of one file
abbrev pub put_in : Contents → List ℕ → List ℕ → Contents
put_in contents file bytes name = elim (same_bytes file name) [ true ↦ bytes | false ↦ contents name ]

module _ (contents : Contents) (file bytes : List ℕ) where
  -- they stand there
  pub put-here : put_in contents file bytes file ≡ bytes
  put-here = rw (put_in, same_self file) refl

  -- and all others stay
  pub put-other : (other : List ℕ) → ¬ (file ≡ other) → put_in contents file bytes other ≡ contents other
  put-other other differs = go (same_bytes file other) refl
    where
      go : (t : Bool) → same_bytes file other ≡ t → put_in contents file bytes other ≡ contents other
      go true p = absurd (differs (same_equal file other p))
      go false p = rw (put_in, p) refl

  -- where these are what is told of the file, the contents agree as before
  pub put-agrees : (left : Files) → Agrees left contents → IsContent (left file) bytes → Agrees left (put_in contents file bytes)
  put-agrees left agrees content name told e = go (same_bytes file name) refl
    where
      told-is : (l : Option (List ℕ)) → l ≡ Some told → IsContent l bytes → bytes ≡ told
      told-is None is h = absurd (cc)
      told-is (Some b) is h = let same : b ≡ told = cc in sym h ∙ same

      go : (t : Bool) → same_bytes file name ≡ t → put_in contents file bytes name ≡ told
      go true p = rw (put_in, p) (told-is (left file) (subst (λ n. left n ≡ Some told) (sym (same_equal file name p)) e) content)
      go false p = rw (put_in, p) (agrees name told e)

-- the same order list stands in contents that have the same bytes of the order file
pub order-kept : (job : JobParts) (a b : Contents) (order : List Item) → ((file : List ℕ) → job.order_file ≡ Some file → b file ≡ a file)
    → IsOrder job a order → IsOrder job b order
order-kept job a b order same (from_words is) = from_words is
order-kept job a b order same (from_file {file} is few list) =
    from_file is (subst (λ bytes. length bytes ≤ most_order_bytes) (sym (same file is)) few)
    (subst (λ bytes. order_of bytes ≡ Ok order) (sym (same file is)) list)

-- the file whose text is read isn't the order file
pub text-differs : (job : JobParts) (text file : List ℕ) → text_file job ≡ Some text → job.order_file ≡ Some file → ¬ (file ≡ text)
text-differs job text file is order same =
    let e : text_of-order (reads_file job.mode) (Some file) ≡ Some text = subst (λ o. text_of-order (reads_file job.mode) o ≡ Some text) order is in
    go (reads_file job.mode) e
  where
    text_of-order : Bool → Option (List ℕ) → Option (List ℕ)
    text_of-order r o = elim r [ true ↦ unless_read o job.name | false ↦ None ]

    by : (t : Bool) → same_bytes file job.name ≡ t → (elim t [ true ↦ None | false ↦ Some job.name ]) ≡ Some text → ⊥
    by true p e = absurd (cc)
    by false p e =
        let name : job.name ≡ text = cc in
        true≢false (sym (same_self file) ∙ ap (same_bytes file) (same ∙ sym name) ∙ p)

    go : (r : Bool) → text_of-order r (Some file) ≡ Some text → ⊥
    go true e = by (same_bytes file job.name) refl e
    go false e = absurd (cc)
