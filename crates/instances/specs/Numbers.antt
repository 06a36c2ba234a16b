-- The floats of the instances, by their bits, and windows of them.
use Rattle.std.specs.Prelude.{Float}
use Rattle.std.specs.Float.{binary64}
use Rattle.std.specs.Float.Ieee.{of_bits}
use Rattle.plane.specs.Interval.{from◌to◌}
use Rattle.plane.specs.Rect.{◌by◌}
use Rattle.plane.specs.declared.rect.Rect.{Rect}

abbrev pub n0 : Float
n0 = of_bits binary64 0x0000_0000_0000_0000

abbrev pub n¼ : Float
n¼ = of_bits binary64 0x3fd0_0000_0000_0000

abbrev pub n½ : Float
n½ = of_bits binary64 0x3fe0_0000_0000_0000

abbrev pub n¾ : Float
n¾ = of_bits binary64 0x3fe8_0000_0000_0000

abbrev pub n1 : Float
n1 = of_bits binary64 0x3ff0_0000_0000_0000

abbrev pub n1½ : Float
n1½ = of_bits binary64 0x3ff8_0000_0000_0000

abbrev pub n2 : Float
n2 = of_bits binary64 0x4000_0000_0000_0000

abbrev pub n3 : Float
n3 = of_bits binary64 0x4008_0000_0000_0000

abbrev pub n4 : Float
n4 = of_bits binary64 0x4010_0000_0000_0000

abbrev pub -n0 : Float
-n0 = of_bits binary64 0x8000_0000_0000_0000

abbrev pub -n1 : Float
-n1 = of_bits binary64 0xbff0_0000_0000_0000

-- 2 ^ -53, and 2 + 2 ^ -51
abbrev pub tiny : Float
tiny = of_bits binary64 0x3ca0_0000_0000_0000

abbrev pub n2+ : Float
n2+ = of_bits binary64 0x4000_0000_0000_0001

-- 2 ^ 500, and the next float above it
abbrev pub most : Float
most = of_bits binary64 0x5f30_0000_0000_0000

abbrev pub most+ : Float
most+ = of_bits binary64 0x5f30_0000_0000_0001

-- 2 ^ 1023 and its negative
abbrev pub huge : Float
huge = of_bits binary64 0x7fe0_0000_0000_0000

abbrev pub -huge : Float
-huge = of_bits binary64 0xffe0_0000_0000_0000

abbrev pub not_a_number : Float
not_a_number = of_bits binary64 0x7ff8_0000_0000_0000

infix 8 x◌to◌y◌to◌
-- a window by its sides: x from a to b, y from c to d
abbrev pub x◌to◌y◌to◌ : Float → Float → Float → Float → Rect
x a to b y c to d = (from a to b) by (from c to d)
