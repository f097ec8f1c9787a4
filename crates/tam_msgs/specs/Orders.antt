-- Order lists: which texts are lists of items, and of which.
-- The rule in words: docs/FORMATS.md, "Order lists".
use Rattle.std.specs.Prelude.{ℕ, suc, ◌-◌, ◌^◌, Bool, true, false, ◌==◌, List, [], ◌∷◌, Option, Some, None, Result, Ok, Err, codes}
use Rattle.std.specs.List.{slice_split}
use Rattle.tam_msgs.specs.declared.item.Item.{Item}
use Rattle.tam_msgs.specs.declared.item.Item.TheVariants.{Ready, Place}
use Rattle.tam_word.specs.Lists.{same_bytes}
use Rattle.tam_word.specs.Numbers.{decimal_up_to}

-- what joins two items: `,` or LF
abbrev pub is_joint : ℕ → Bool
is_joint b = elim (b == 44) [ true ↦ true | false ↦ b == 10 ]

-- the text without the one LF that may stand behind its last item
abbrev pub without_last_line_feed : List ℕ → List ℕ
without_last_line_feed [] = []
without_last_line_feed (b ∷ []) = elim (b == 10) [ true ↦ [] | false ↦ b ∷ [] ]
without_last_line_feed (b ∷ c ∷ bs) = b ∷ without_last_line_feed (c ∷ bs)

-- the pieces of a text between its joints, none where it is empty
abbrev pub pieces_of : List ℕ → List (List ℕ)
pieces_of [] = []
pieces_of (b ∷ bs) = slice_split is_joint (without_last_line_feed (b ∷ bs))

-- the item of a number
abbrev pub place_item : Option ℕ → Option Item
place_item None = None
place_item (Some k) = Some (Place k)

-- the item that a piece spells: `r`, or a number in plain decimal
abbrev pub item_of : List ℕ → Option Item
item_of piece = elim (same_bytes piece (codes "r")) [ true ↦ Some Ready | false ↦ place_item (decimal_up_to (2 ^ 32 - 1) piece) ]

-- an item before those that are read behind it
abbrev pub item_before : Item → Result (List Item) ℕ → Result (List Item) ℕ
item_before item (Ok items) = Ok (item ∷ items)
item_before item (Err place) = Err place

-- the items of the pieces, numbered from n, or the number of the first that spells none
abbrev pub items_from : ℕ → List (List ℕ) → Result (List Item) ℕ
items_from n [] = Ok []
items_from n (piece ∷ pieces) = elim (item_of piece) [ None ↦ Err n | Some item ↦ item_before item (items_from (suc n) pieces) ]

-- the items of a text, or the number from 0 of the first piece that spells none
abbrev pub order_of : List ℕ → Result (List Item) ℕ
order_of text = items_from 0 (pieces_of text)
