-- What a machine can be made for.
use Rattle.std.specs.Prelude.{ℕ, ◌≡◌, ◌≤◌, ◌<◌, ◌-◌, List, All, get_or, replicate}
use Rattle.user_model.specs.declared.entry.Setup.{Setup}

-- a setup from its numbers: threads, width and height, the flags of sends with a time, and a limit of posted messages for each thread
abbrev pub setup_with : ℕ → ℕ → ℕ → ℕ → List ℕ → Setup
setup_with threads width height smto posts = record { threads = threads; width = width; height = height; smto = smto; posts = posts }

-- the same with SMTO_BLOCK alone, and 10,000 posted messages for each thread
abbrev pub setup_from : ℕ → ℕ → ℕ → Setup
setup_from threads width height = setup_with threads width height 1 (replicate 15 10000)

-- 1 to 15 threads, and a screen of 1 to 128 by 1 to 64 pixels
pub record IsSize (threads width height : ℕ) : Type 0 where
  pub some_thread : 0 < threads
  pub few_threads : threads ≤ 15
  pub some_width : 0 < width
  pub narrow : width ≤ 128
  pub some_height : 0 < height
  pub low : height ≤ 64

-- such a size, the flags 1, and for each thread a limit of 1 to 10,000
pub record IsSetup (s : Setup) : Type 0 where
  pub size : IsSize s.threads s.width s.height
  pub flags : s.smto ≡ 1
  pub limits : All (λ n. (0 < n) × (n ≤ 10000)) s.posts

-- how many posted messages the queue of thread t holds at most
abbrev pub post_limit : Setup → ℕ → ℕ
post_limit setup t = get_or setup.posts (t - 1) 10000
