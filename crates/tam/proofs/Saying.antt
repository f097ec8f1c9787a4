-- What was done once a text was said.
use Rattle.std.proofs.Common.{◌≡◌, ℕ, List, [], ◌++◌, sym, ap, ◌∙◌, subst}
use Rattle.std.specs.Prelude.{Option, Result, Ok, Err, Vec, IfOk, MatchResult}
use Rattle.std.specs.declared.alloc.Global.{Global}
use Rattle.std.specs.Io.KnownBytes.{Appends}
use Rattle.std.proofs.KnownBytes.{Appends-trans}
use Rattle.std.proofs.lemmas.List.{append-nil}
use Rattle.tam_edge.specs.Faults.{CountsFault}
use Rattle.tam_run.proofs.Prefixes.{prefix-more}
use Rattle.tam_input.specs.declared.ending.Ending.{Ending}
use Rattle.tam_input.specs.declared.ending.Ending.TheVariants.{NoMemory}
use Rattle.tam_input.specs.Refusing.{no_memory_line}
use Rattle.tam.specs.Headline.{IsSaid, IsDone}

module _ (old new : Option (List ℕ)) (faults faults_new : ℕ) where
  -- one of the texts was said
  pub said-done : (Says : Ending → List ℕ → Type 0) (meant end : Ending) (text : List ℕ) → Says meant text → IsSaid meant text end old new faults faults_new
      → IsDone Says end old new faults faults_new
  said-done Says meant end text is s = record {
    said = λ n. (text, subst (λ c. Says c text) (sym (s.said n).0) is, (s.said n).1);
    none = s.none;
    broken = λ e. (meant, text, is, s.broken e);
    fault = s.fault;
  }

  -- what was done of some texts was done of more
  pub done-more : (Says More : Ending → List ℕ → Type 0) (end : Ending) → ((meant : Ending) (text : List ℕ) → Says meant text → More meant text)
      → IsDone Says end old new faults faults_new → IsDone More end old new faults faults_new
  done-more Says More end more d = record {
    said = λ n. let s = d.said n in (s.0, more end s.0 s.1, s.2);
    none = d.none;
    broken = λ e. let b = d.broken e in (b.0, b.1, more b.0 b.1 b.2, b.3);
    fault = d.fault;
  }

  -- a text that was made was said, or that memory was wanted
  pub made-done : {E : Type 0} (Says : Ending → List ℕ → Type 0) (meant end : Ending) (made : Result (Vec ℕ Global) E) (text : List ℕ) → Says meant text
      → Says NoMemory no_memory_line → IfOk made (λ t. t.items ≡ text)
      → MatchResult made (λ t. IsSaid meant t.items end old new faults faults_new) (λ e. IsSaid NoMemory no_memory_line end old new faults faults_new)
      → IsDone Says end old new faults faults_new
  made-done Says meant end (Ok t) text is wanted e s = said-done Says meant end text is (subst (λ x. IsSaid meant x end old new faults faults_new) e s)
  made-done Says meant end (Err e) text is wanted m s = said-done Says NoMemory end no_memory_line wanted s

-- a text that was said by another name
pub said-is : (meant other end : Ending) (text more : List ℕ) (old new : Option (List ℕ)) (faults faults_new : ℕ) → other ≡ meant → more ≡ text
    → IsSaid other more end old new faults faults_new → IsSaid meant text end old new faults faults_new
said-is meant other end text more old new faults faults_new e f s =
    subst (λ m. IsSaid m text end old new faults faults_new) e (subst (λ t. IsSaid other t end old new faults faults_new) f s)

-- what was done behind a text that was taken was done of both
module _ (old mid new : Option (List ℕ)) (faults faults_mid faults_new : ℕ) (prefix : List ℕ) (taken : Appends old mid prefix)
    (same : faults_mid ≡ faults) where
  pub behind-done : (Says More : Ending → List ℕ → Type 0) (end : Ending)
      → ((meant : Ending) (text : List ℕ) → Says meant text → More meant (prefix ++ text)) → IsDone Says end mid new faults_mid faults_new
      → IsDone More end old new faults faults_new
  behind-done Says More end more d = record {
    said = λ n. let s = d.said n in (prefix ++ s.0, more end s.0 s.1, Appends-trans old mid new prefix s.0 taken s.2);
    none = λ n. d.none n ∙ same;
    broken = λ e.
        let b = d.broken e in
        (b.0, prefix ++ b.1, more b.0 b.1 b.2, prefix-more old mid new prefix b.1 [] (prefix ++ b.1) taken b.3 (ap (λ l. prefix ++ l) (sym (append-nil b.1))));
    fault = λ e. subst (λ f. CountsFault f faults_new) same (d.fault e);
  }
