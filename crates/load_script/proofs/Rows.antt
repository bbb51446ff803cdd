-- Worked rows: the first bytes that are drawn from 0 and from 1.
use Rattle.std.proofs.Common.{◌≡◌, [], ◌∷◌, refl}
use Rattle.load_script.specs.Draws.{drawn, top_byte, bytes_drawn}

from_0 : bytes_drawn 1 0 ≡ 20 ∷ []
unfolding bytes_drawn drawn top_byte
from_0 = refl

from_1 : bytes_drawn 1 1 ≡ 108 ∷ []
unfolding bytes_drawn drawn top_byte
from_1 = refl
