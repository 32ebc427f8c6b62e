-- The numbers that document 01 marks as proved, all twelve in one statement. Assumes nothing.
use mathlib.Core.Path.{refl}
use Rattle.control.specs.Control.{command_of}
use Rattle.count.specs.Step.{decimal_step}
use Rattle.time.specs.Time.{ticks_from_time}
use Rattle.step.specs.Numbers.{ProvedNumbers}

pub proved-numbers : ProvedNumbers
unfolding command_of decimal_step ticks_from_time
proved-numbers =
    record {
      from-0000 = refl;
      from-0001 = refl;
      from-0010 = refl;
      from-0100 = refl;
      from-1000 = refl;
      from-00_a0 = refl;
      binary-from-0 = refl;
      binary-from-0100 = refl;
      ticks-11 = refl;
      ticks-12 = refl;
      ticks-25 = refl;
      control-34 = λ model. refl;
    }
