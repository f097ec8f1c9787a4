-- The values of options, and of a count.
-- The rule in words: docs/FORMATS.md, "Command line".
use Rattle.std.specs.Prelude.{ℕ, Bool, true, false, ◌==◌, nat_le, List, [], ◌∷◌, length, Option, Some, None, Ok, Err, Result}
use Rattle.std.specs.List.{slice_split}
use Rattle.tam_word.specs.Numbers.{some_if, decimal_up_to, word_of}
use Rattle.tam_msgs.specs.declared.item.Item.{Item}
use Rattle.tam_msgs.specs.declared.limits.Limits.{Limits}
use Rattle.tam_msgs.specs.Orders.{order_of}
use Rattle.tam_make.specs.declared.shape.Shape.{Shape}
use Rattle.tam_make.specs.MadeTexts.{largest}

-- a comma
abbrev pub is_comma : ℕ → Bool
is_comma b = b == 44

-- the words that texts stand for, where each stands for one
abbrev pub all_words : List (List ℕ) → Option (List ℕ)
all_words [] = Some []
all_words (text ∷ more) = elim (word_of text) [ None ↦ None | Some w ↦ elim (all_words more) [ None ↦ None | Some ws ↦ Some (w ∷ ws) ] ]

-- the words of a list that is empty or joined by commas
abbrev pub args_of : List ℕ → Option (List ℕ)
args_of [] = Some []
args_of (b ∷ bytes) = all_words (slice_split is_comma (b ∷ bytes))

-- the most bytes of an order list
abbrev pub most_order_bytes : ℕ
most_order_bytes = 1048576

-- the items of a text that spells them all
abbrev pub items_of : Result (List Item) ℕ → Option (List Item)
items_of (Ok items) = Some items
items_of (Err place) = None

-- the items of an order list that isn't too long
abbrev pub short_order_of : List ℕ → Option (List Item)
short_order_of text = elim (nat_le (length text) most_order_bytes) [ true ↦ items_of (order_of text) | false ↦ None ]

-- a number that isn't below a least one
abbrev pub at_least : ℕ → Option ℕ → Option ℕ
at_least least None = None
at_least least (Some n) = some_if (nat_le least n) n

-- the number that a text spells, within its range; the usual one where there is no text
abbrev pub limit_of : ℕ → ℕ → ℕ → Option (List ℕ) → Option ℕ
limit_of usual least most None = Some usual
limit_of usual least most (Some text) = at_least least (decimal_up_to most text)

-- the limits where no option sets them
abbrev pub usual_limits : Limits
usual_limits = record { budget = 1000000; frames = 4096; cells = 1048576 }

-- the count that a text gives a shape, where it is a number that the shape may have
abbrev pub count_of : Shape → Option (List ℕ) → Option ℕ
count_of shape None = None
count_of shape (Some text) = at_least 1 (decimal_up_to (largest shape) text)
