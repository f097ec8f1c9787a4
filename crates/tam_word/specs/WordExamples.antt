-- What operators give at the edges of their range, by computation.
use Rattle.std.specs.Prelude.{◌≡◌, refl}
use Rattle.tam_word.specs.declared.op.Op.TheVariants.{Sub, Div, Rem, Sra}
use Rattle.tam_word.specs.Words.{meaning}

div_least : meaning Div 2147483648 4294967295 ≡ 2147483648
div_least = refl

rem_least : meaning Rem 2147483648 4294967295 ≡ 0
rem_least = refl

sub_below : meaning Sub 0 1 ≡ 4294967295
sub_below = refl

shift_sign : meaning Sra 2147483648 33 ≡ 3221225472
shift_sign = refl
