-- One bound: a side of variable i, plus `minus`, is at most a side of variable j, plus `plus`.
use Rattle.std.specs.Prelude.{ℕ}
use Rattle.alta_codec.specs.declared.form.Form.{Form}
use Rattle.alta_codec.specs.declared.form.Form.TheVariants.{LocLoc, PrevLoc}

-- the constant of the bound is `plus` less `minus`
pub record Inequality : Type 0 where
  pub form : Form
  pub i : ℕ
  pub j : ℕ
  pub plus : ℕ
  pub minus : ℕ

-- the place of variable i is at most that of variable 0
abbrev pub upper : ℕ → Inequality
upper i = record { form = LocLoc; i = i; j = 0; plus = 0; minus = 0 }

-- the element before the place of variable 0 is below the place of variable i
abbrev pub lower : ℕ → Inequality
lower i = record { form = PrevLoc; i = 0; j = i; plus = 0; minus = 1 }
