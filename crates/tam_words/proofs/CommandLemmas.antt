-- What `clap` promises of the command: a parse that ends well has no fault and its matches, and one that fails has a fault, or wanted memory.
use Rattle.std.proofs.Common.{◌≡◌, ◌⊎◌, ℕ, true, List, [], ◌∷◌, refl, subst, inl, inr}
use Rattle.std.specs.Prelude.{Err}
use Rattle.clap.specs.Words.{App, IsAmong, Row, fault_of, is_simple, is_simple_and_free, matches_of}
use Rattle.clap.specs.declared.error.kind.ErrorKind.{ErrorKind}
use Rattle.clap.specs.declared.error.kind.ErrorKind.TheVariants as kind
use Rattle.tam_words.specs.declared.usage_cause.UsageCause.TheVariants.{Words}
use Rattle.tam_words.specs.Command.{command, is_matched, matches}
use Rattle.tam_words.specs.Jobs.{holds_or}
use Rattle.tam_words.specs.Tells.{TellsOf, words_error_of_kind}

-- `clap` gives the matches of such a command as a function of the words
command-is_simple : is_simple command ≡ true
unfolding command
command-is_simple = refl

-- and its faults
command-is_free : is_simple_and_free command ≡ true
unfolding command
command-is_free = refl

-- words without a fault match
pub matched_by : (app : App) (words : List (List ℕ)) → app ≡ command → (is_simple_and_free app ≡ true → fault_of app words ≡ []) → is_matched words ≡ true
unfolding is_matched
matched_by app words e h =
    let none : fault_of command words ≡ [] = subst (λ a. is_simple_and_free a ≡ true → fault_of a words ≡ []) e h command-is_free in
    rw none refl

-- the rows of a parse are the matches
pub matches_by : (app : App) (words : List (List ℕ)) (rows : List Row) → app ≡ command → (is_simple app ≡ true → rows ≡ matches_of app words)
    → rows ≡ matches words
unfolding matches
matches_by app words rows e h = subst (λ a. is_simple a ≡ true → rows ≡ matches_of a words) e h command-is_simple

-- an error of words that don't match says so, or wants memory
told : (k : ErrorKind) → TellsOf {X = Unit {0}} (Err Words) (words_error_of_kind k)
told kind.OutOfMemory = tt
told _ = refl

-- an error of a kind among those of a fault says that the words don't match
pub refused_by : (app : App) (words : List (List ℕ)) (k : ErrorKind) → app ≡ command
    → (is_simple_and_free app ≡ true → (k ≡ kind.OutOfMemory) ⊎ IsAmong k (fault_of app words))
    → TellsOf (holds_or Words (is_matched words)) (words_error_of_kind k)
unfolding is_matched
refused_by app words k e h =
    go (fault_of command words) refl
    (subst (λ a. is_simple_and_free a ≡ true → (k ≡ kind.OutOfMemory) ⊎ IsAmong k (fault_of a words)) e h command-is_free)
  where
    go : (kinds : List ErrorKind) → fault_of command words ≡ kinds → (k ≡ kind.OutOfMemory) ⊎ IsAmong k kinds
        → TellsOf (holds_or Words (is_matched words)) (words_error_of_kind k)
    go kinds f (inl wants) = rw wants tt
    go [] f (inr none) = absurd none
    go (x ∷ xs) f (inr among) = rw f (told k)
