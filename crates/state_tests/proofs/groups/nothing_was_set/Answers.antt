use Rattle.std.proofs.Common.{◌≡◌, ◌<◌, ◌≤◌, refl, arith}
use Rattle.std.proofs.lemmas.List.Elements.{All-replicate}
use Rattle.user_model.specs.Setups.{IsSetup, setup_from}
use Rattle.state_tests.proofs.groups.nothing_was_set.Goals as goal

three_are_few : IsSetup (setup_from 3 1 1)
three_are_few = record {
  size = record { some_thread = omega arith; few_threads = omega arith; some_width = omega arith; narrow = omega arith; some_height = omega arith; low = omega arith };
  flags = refl;
  limits = All-replicate (λ n. (0 < n) × (n ≤ 10000)) 15 10000 (omega arith, omega arith);
}

pub value-requires : goal.value-requires
value-requires g c =
    let threads : c.in_ok-groups.groups.inputs.threads ≡ 3 = (c.in_ok-groups.ensures (setup_from 3 1 1) three_are_few refl).threads in
    (omega arith, omega arith)

pub is_of_group-requires : goal.is_of_group-requires
is_of_group-requires g c =
    let threads : c.in_ok-groups.groups.inputs.threads ≡ 3 = (c.in_ok-groups.ensures (setup_from 3 1 1) three_are_few refl).threads in
    (omega arith, omega arith)

pub is_key_down-requires : goal.is_key_down-requires
is_key_down-requires g c =
    let threads : c.in_ok-groups.groups.inputs.threads ≡ 3 = (c.in_ok-groups.ensures (setup_from 3 1 1) three_are_few refl).threads in
    (omega arith, omega arith)

pub group-requires : goal.group-requires
group-requires g c =
    let threads : c.in_ok-groups.groups.inputs.threads ≡ 3 = (c.in_ok-groups.ensures (setup_from 3 1 1) three_are_few refl).threads in
    (omega arith, omega arith)
