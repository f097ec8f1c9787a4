-- Texts of order lists, read by computation.
use Rattle.std.specs.Prelude.{◌≡◌, [], ◌∷◌, ◌++◌, Ok, Err, codes, refl}
use Rattle.tam_msgs.specs.declared.item.Item.TheVariants.{Ready, Place}
use Rattle.tam_msgs.specs.Orders.{order_of}

empty : order_of [] ≡ Ok []
empty = refl

commas : order_of (codes "r,0,17") ≡ Ok (Ready ∷ Place 0 ∷ Place 17 ∷ [])
commas = refl

lines : order_of (codes "2" ++ 10 ∷ codes "r" ++ 10 ∷ []) ≡ Ok (Place 2 ∷ Ready ∷ [])
lines = refl

greatest : order_of (codes "4294967295") ≡ Ok (Place 4294967295 ∷ [])
greatest = refl

too_great : order_of (codes "r,4294967296") ≡ Err 1
too_great = refl

leading_zero : order_of (codes "0,1,01,x") ≡ Err 2
leading_zero = refl

lone_line_feed : order_of (10 ∷ []) ≡ Err 0
lone_line_feed = refl

two_line_feeds : order_of (codes "r" ++ 10 ∷ 10 ∷ []) ≡ Err 1
two_line_feeds = refl

last_comma : order_of (codes "r,") ≡ Err 1
last_comma = refl

comma_and_line_feed : order_of (codes "r," ++ 10 ∷ []) ≡ Err 1
comma_and_line_feed = refl

carriage_return : order_of (codes "r" ++ 13 ∷ 10 ∷ []) ≡ Err 0
carriage_return = refl
