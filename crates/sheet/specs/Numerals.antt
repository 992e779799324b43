-- A numeral of 0 means that there is none.
use Rattle.std.specs.Prelude.{ℕ, cond, Some, None, Option, ◌==◌}

abbrev pub some_numeral : ℕ → Option ℕ
some_numeral m = cond (m == 0) None (Some m)
