-- What a dialog does at a key.
use Rattle.std.specs.Prelude.{if◌then◌else◌, ℕ, ◌==◌, ◌||◌, Bool, true, false, not}
use Rattle.dialog_keys.specs.declared.key.TheConstants.{VK_TAB, VK_RETURN, VK_ESCAPE, VK_LEFT, VK_UP, VK_RIGHT, VK_DOWN, IDOK, IDCANCEL}
use Rattle.dialog_keys.specs.declared.key.Errand.{Errand}
use Rattle.dialog_keys.specs.declared.key.Errand.TheVariants.{Moves, Commands, Nothing}

-- what a dialog does at a key: Tab moves forwards, and backwards with Shift; right and down move forwards, left and up backwards; Enter and Escape command; any other does nothing
abbrev pub errand_of : ℕ → Bool → Errand
errand_of vk shift =
    if vk == VK_TAB then Moves (not shift) else
    if (vk == VK_RIGHT) || (vk == VK_DOWN) then Moves true else
    if (vk == VK_LEFT) || (vk == VK_UP) then Moves false else
    if vk == VK_RETURN then Commands IDOK else
    if vk == VK_ESCAPE then Commands IDCANCEL else Nothing
