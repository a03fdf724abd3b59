-- The characters that keys make.
use Rattle.std.specs.Prelude.{if◌then◌else◌, ℕ, ◌==◌, ◌+◌, nat_le, Bool, not, ◌&&◌, ◌||◌}
use Rattle.win_num.specs.declared.names.TheConstants.{VK_SPACE}

-- whether the key is one of A to Z, which have the numbers of the upper-case letters
abbrev pub is_letter : ℕ → Bool
is_letter key = nat_le 65 key && nat_le key 90

-- whether it is one of 0 to 9, which have those of the digits
abbrev pub is_digit : ℕ → Bool
is_digit key = nat_le 48 key && nat_le key 57

-- whether the key makes a character: letters, digits and space do
abbrev pub has_character : ℕ → Bool
has_character key = is_letter key || is_digit key || (key == VK_SPACE)

-- the ASCII number of its character; a letter is lower-case unless Shift is down
abbrev pub character : Bool → ℕ → ℕ
character shift key = if is_letter key && not shift then key + 32 else key
