use Rattle.std.proofs.Common.{◌≡◌, ℕ, ◌<◌, get_or, Ok, arith, rules}
use Rattle.rackfile.specs.Files.{file_seen, reading}
use Rattle.rackfile.proofs.Standing.{stands, bytes_from}
use Rattle.rackfile.proofs.file.read_file.Goals as goal

pub returns : goal.returns
returns c =
    let input = c.args.input.now in
    let small : (i : ℕ) → get_or input i 0 < 256 = λ i. omega (arith, c.type_inv.input i) in
    let f = file_seen (record { policy = c.in_ok-header.header.policy; processors = c.in_ok-header.header.processors; records = c.in_ok-records.records }) in
    let e : reading input ≡ Ok f = search rules in
    (e, stands input f (bytes_from input small) e)
