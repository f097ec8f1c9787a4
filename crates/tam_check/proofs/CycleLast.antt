-- A node whose only fault is a cycle.
use Rattle.std.proofs.Common.{◌≡◌, ℕ, Bool, true, false, ◌==◌, ◌&&◌, not, List, [], ◌∷◌, ◌++◌, take, refl, subst}
use Rattle.tam_word.specs.Lists.{where_so}
use Rattle.tam_graph.specs.declared.check_cause.CheckCause.{CheckCause}
use Rattle.tam_graph.specs.declared.check_cause.CheckCause.TheVariants.{WrongBlock, PlaceTwice, PlaceRange, PlaceMissing, DepthMismatch, MainType, Cycle}
use Rattle.tam_graph.specs.Graphs.{Code, Graph, code_of, kind_at}
use Rattle.tam_graph.specs.Accepted.{is_wrong_block, is_place_twice, is_place_range, is_place_missing, has_right_depth, is_main_type, is_cycle, faults_at}

-- causes by their tests, in order
abbrev causes : Bool → Bool → Bool → Bool → Bool → Bool → Bool → List CheckCause
causes b t r m d a c =
    where_so b WrongBlock ++ (where_so t PlaceTwice ++ (where_so r PlaceRange ++ (where_so m PlaceMissing ++ (where_so (not d) DepthMismatch
    ++ (where_so a MainType ++ where_so c Cycle)))))

-- the last of them
last-cause : (b t r m d a c : Bool) → b ≡ false → t ≡ false → r ≡ false → m ≡ false → d ≡ true → a ≡ false → c ≡ true
    → take 1 (causes b t r m d a c) ≡ Cycle ∷ []
last-cause false false false false true false true b t r m d a c = refl
last-cause true t r m d a c p q s u v w y = absurd cc
last-cause false true r m d a c p q s u v w y = absurd cc
last-cause false false true m d a c p q s u v w y = absurd cc
last-cause false false false true d a c p q s u v w y = absurd cc
last-cause false false false false false a c p q s u v w y = absurd cc
last-cause false false false false true true c p q s u v w y = absurd cc
last-cause false false false false true false false p q s u v w y = absurd cc

-- where no other cause holds, the first is the cycle
pub first-cycle : (g : Graph) (n x : ℕ) (c : Code) → c ≡ code_of g n → is_wrong_block c x ≡ false → is_place_twice c x ≡ false
    → is_place_range g c x (kind_at c x) ≡ false
    → is_place_missing g c x (kind_at c x) ≡ false → has_right_depth g c x (kind_at c x) ≡ true → ((n == g.main) && is_main_type c x (kind_at c x)) ≡ false
    → is_cycle c x ≡ true → take 1 (faults_at g n x) ≡ Cycle ∷ []
first-cycle g n x c e b t r m d a y = subst (λ z. take 1 (all z) ≡ Cycle ∷ []) e (last-cause _ _ _ _ _ _ _ b t r m d a y)
  where
    all : Code → List CheckCause
    all z = causes (is_wrong_block z x) (is_place_twice z x) (is_place_range g z x (kind_at z x)) (is_place_missing g z x (kind_at z x))
        (has_right_depth g z x (kind_at z x)) ((n == g.main) && is_main_type z x (kind_at z x)) (is_cycle z x)
