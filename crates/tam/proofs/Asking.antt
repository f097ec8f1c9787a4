-- What words ask for is one job with one order list and one text.
use Rattle.std.proofs.Common.{◌≡◌, ℕ, ◌≤◌, ◌⊎◌, inl, inr, List, length, refl, sym, ap, subst, ◌∙◌, arith}
use Rattle.std.specs.Prelude.{Option, Some, None, Result, Ok, Err}
use Rattle.tam_msgs.specs.declared.item.Item.{Item}
use Rattle.tam_msgs.specs.Orders.{order_of}
use Rattle.tam_words.specs.declared.usage_cause.UsageCause.{UsageCause}
use Rattle.tam_words.specs.Jobs.{Asked, Job, Usage, JobParts}
use Rattle.tam_input.specs.declared.refusal.Refusal.{Refusal}
use Rattle.tam_input.specs.declared.refusal.Refusal.TheVariants as refusal
use Rattle.tam_input.specs.declared.ending.Ending.{Ending}
use Rattle.tam_input.specs.declared.ending.Ending.TheVariants.{ReadFault}
use Rattle.tam_input.specs.Told.{Told, Contents}
use Rattle.tam_input.specs.Refusing.{IsOrder, from_words, from_file, Refuses, usage, order_failed, long_order, no_order, text_failed, too_long, wanted}
use Rattle.tam_input.specs.Refusing.{text_file, text_of, bytes_of, most_bytes, most_order_bytes, refusal_ending, refusal_line, read_fault_line}
use Rattle.tam_input.specs.Inputs.{Request, request_of, Names, IsInput}
use Rattle.tam.specs.Answers.{Answer, AnswerTo, refused, answered, wanted as out}
use Rattle.tam.specs.Asks.{AsksText}
use Rattle.tam.specs.Headline.{ReadFailed}

-- a job is no fault
not-both : (job : JobParts) (cause : UsageCause) → Job job ≡ Usage cause → ⊥
not-both job cause e = cc

-- one job is asked for
job-once : (a b : JobParts) → Job a ≡ Job b → a ≡ b
job-once a b e = cc

-- one name is one name
name-once : (a b : List ℕ) → ◌≡◌ {A = Option (List ℕ)} (Some a) (Some b) → a ≡ b
name-once a b e = cc

-- a name is there
none-some : (b : List ℕ) → ◌≡◌ {A = Option (List ℕ)} None (Some b) → ⊥
none-some b e = cc

-- one list is one list
ok-once : (a b : List Item) → ◌≡◌ {A = Result (List Item) ℕ} (Ok a) (Ok b) → a ≡ b
ok-once a b e = cc

-- and no fault
ok-not-err : (a : List Item) (n : ℕ) → ◌≡◌ {A = Result (List Item) ℕ} (Ok a) (Err n) → ⊥
ok-not-err a n e = cc

module _ (job : JobParts) (contents : Contents) where
  -- the order file of a job that has an order list isn't too long, and holds one
  ordered-file : (order : List Item) → IsOrder job contents order → (file : List ℕ) → job.order_file ≡ Some file
      → (length (contents file) ≤ most_order_bytes) × ((items : List Item) × (order_of (contents file) ≡ Ok items))
  ordered-file order (from_words none) file is = absurd (none-some file (sym none ∙ is))
  ordered-file order (from_file {file = f} {order = o} some few e) file is =
      let same : f ≡ file = name-once f file (sym some ∙ is) in
      (subst (λ n. length (contents n) ≤ most_order_bytes) same few, (o, subst (λ n. order_of (contents n) ≡ Ok o) same e))

  -- a job has one order list
  order-once : (a b : List Item) → IsOrder job contents a → IsOrder job contents b → a ≡ b
  order-once a b (from_words none) (from_words other) = refl
  order-once a b (from_words none) (from_file {file = f} some l e) = absurd (none-some f (sym none ∙ some))
  order-once a b (from_file {file = f} some l e) (from_words none) = absurd (none-some f (sym none ∙ some))
  order-once a b (from_file {file = f} some l e) (from_file {file = g} more m h) =
      ok-once a b (sym e ∙ ap (λ n. order_of (contents n)) (name-once f g (sym some ∙ more)) ∙ h)

module _ (words : Asked) (contents : Contents) (before now : Told) (ask : Request) (bytes : List ℕ) (asks : AsksText words contents ask bytes) where
  same-job : (job : JobParts) → words ≡ Job job → job ≡ asks.job
  same-job job e = job-once job asks.job (sym e ∙ asks.asked)

  -- the order file, where one is named
  file : (job : JobParts) → words ≡ Job job → (name : List ℕ) → job.order_file ≡ Some name
      → (length (contents name) ≤ most_order_bytes) × ((items : List Item) × (order_of (contents name) ≡ Ok items))
  file job e name is = ordered-file asks.job contents asks.order asks.ordered name (subst (λ j. j.order_file ≡ Some name) (same-job job e) is)

  -- the bytes of the file whose text is read
  read : (job : JobParts) → words ≡ Job job → (name : List ℕ) → text_file job ≡ Some name → length (contents name) ≤ most_bytes job.mode
  read job e name is =
      let text : contents name ≡ bytes = ap (bytes_of contents) (sym is) ∙ ap (λ j. text_of j contents) (same-job job e) ∙ asks.text in
      subst (λ b. length b ≤ most_bytes job.mode) (sym text) (subst (λ j. length bytes ≤ most_bytes j.mode) (sym (same-job job e)) asks.few)

  -- before its text is looked into, nothing is told but that a read failed, or that memory was wanted
  early : (r : Refusal) → Refuses words contents before now r → ((r ≡ refusal.NotRead) × ReadFailed words before now) ⊎ (r ≡ refusal.NoMemory)
  early r (usage {cause = c} e ends) = absurd (not-both asks.job c (sym asks.asked ∙ e))
  early r (order_failed {job = j} {file = n} e is rose ends) = inl (refl, (n, subst (λ w. Names w n) (sym e) (inl is), rose))
  early r (long_order {job = j} {file = n} e is more ends) = let f = file j e n is in let few = f.0 in absurd (omega (arith, more, few))
  early r (no_order {job = j} {file = n} {item = i} e is few none ends) = let f = file j e n is in absurd (ok-not-err f.1.0 i (sym f.1.1 ∙ none))
  early r (text_failed {job = j} {file = n} e o is rose ends) = inl (refl, (n, subst (λ w. Names w n) (sym e) (inr is), rose))
  early r (too_long {job = j} {file = n} e o is more ends) = let few = read j e n is in absurd (omega (arith, more, few))
  early r (wanted n few ends) = inr refl

  -- what was read is what is asked for
  pub same-input : (request : Request) (read-bytes : List ℕ) → IsInput words contents before now request read-bytes → (request ≡ ask) × (read-bytes ≡ bytes)
  same-input request read-bytes input =
      let job = same-job input.job input.asked in
      let order : input.order ≡ asks.order = order-once asks.job contents input.order asks.order
      (subst (λ k. IsOrder k contents input.order) job input.ordered) asks.ordered in (
        input.same ∙ ap (λ k. request_of k input.order) job ∙ ap (request_of asks.job) order ∙ sym asks.same,
        sym input.text ∙ ap (λ j. text_of j contents) job ∙ asks.text,
      )

  -- whatever is answered is an answer to the bytes, or that a read failed
  pub told-input : (end : Ending) (text : List ℕ) → Answer words contents before now end text
      → AnswerTo ask bytes end text ⊎ ((end ≡ ReadFault) × (text ≡ read_fault_line) × ReadFailed words before now)
  told-input end text (refused {refusal = r} is) = go (early r is)
    where
      go : ((r ≡ refusal.NotRead) × ReadFailed words before now) ⊎ (r ≡ refusal.NoMemory)
          → AnswerTo ask bytes (refusal_ending r) (refusal_line r)
          ⊎ ((refusal_ending r ≡ ReadFault) × (refusal_line r ≡ read_fault_line) × ReadFailed words before now)
      go (inl f) = inr (ap refusal_ending f.0, ap refusal_line f.0, f.1)
      go (inr e) = inl (subst (λ q. AnswerTo ask bytes (refusal_ending q) (refusal_line q)) (sym e) out)
  told-input end text (answered {request = q} {bytes = b} input a) =
      let same = same-input q b input in inl (subst (λ x. AnswerTo ask x end text) same.1 (subst (λ k. AnswerTo k b end text) same.0 a))
