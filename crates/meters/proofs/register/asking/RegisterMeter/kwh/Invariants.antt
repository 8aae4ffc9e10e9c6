use Rattle.std.proofs.Common.{◌≡◌, ◌-◌, true}
use Rattle.meters.specs.Register.{readings, all_read, sum_of}
use Rattle.meters.proofs.register.asking.RegisterMeter.kwh.Given as goal

abbrev pub invariant-loop-day : goal.invariant-loop-day
invariant-loop-day l =
    (all_read (readings l.self) l.first (l.day - l.first) ≡ true)
    × (l.sum ≡ sum_of (readings l.self) l.first (l.day - l.first))
