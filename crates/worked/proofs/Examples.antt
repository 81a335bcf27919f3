-- Document 01's examples marked P, computed with the definitions.
-- Assumes nothing.
use mathlib.Core.Path.{refl}
use Rattle.figures.specs.Numbers.{below}
use Rattle.signals.specs.Signals.{some, every, negation, both, either, strong_next, weak_next, until, release, finally}
use Rattle.signals.specs.Truth.{bit, deep, truth_of}
use Rattle.rules.specs.TrapRows.{climb, way}
use Rattle.coverage.specs.Coverage.{some_sequence, covered}
use Rattle.worked.specs.Examples.{Examples}

pub examples : Examples
unfolding below some every negation both either strong_next weak_next until release finally bit deep truth_of climb way some_sequence covered
examples =
    record {
      example_1 = refl;
      example_1_a = refl;
      example_1_b = refl;
      example_2 = refl;
      example_2_a = refl;
      example_2_trap = refl;
      example_3_fails = refl;
      example_3_holds = refl;
      example_3_a = refl;
      example_3_b = refl;
      example_3_c = refl;
      example_4_weak = refl;
      example_4_uncovered = refl;
      example_4_covered = refl;
      example_4_strong = refl;
      example_5 = refl;
      example_5_a = refl;
      example_5_without_a = refl;
      example_5_without_b = refl;
      example_6_or_0 = refl;
      example_6_or_1 = refl;
      example_6_and_0 = refl;
      example_6_and_1 = refl;
      example_6_not = refl;
    }
