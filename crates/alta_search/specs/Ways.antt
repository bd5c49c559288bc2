-- What contracts see of a way to the ends that a plan finds.
use Rattle.std.specs.Prelude.{true}
use Rattle.alta_docread.specs.DocView.{IsReading}
use Rattle.alta_lead.specs.Moves.{left_of, list_of}
use Rattle.alta_lead.specs.View.{chains_of, all_of}
use Rattle.alta_lead.specs.declared.reader.LeadReader.{LeadReader}
use Rattle.alta_search.specs.Leads.{IsSoundLed, led_moves}
use Rattle.alta_search.specs.Walks.{PlanView, nothing}
use Rattle.alta_search.specs.Words.{single_list, single_left}
use Rattle.alta_search.specs.declared.plan_reader.Way.{Way}
use Rattle.alta_search.specs.declared.plan_reader.Way.TheVariants.{Nothing, Tree, Led}
use Rattle.alta_search.specs.declared.single_reader.SingleReader.{SingleReader}

-- led by a word, its readers have passed no element
abbrev pub led_view : LeadReader SingleReader → PlanView
led_view r = record {
  list = list_of single_list (chains_of r);
  all = all_of single_list (chains_of r);
  place = r.at;
  left = left_of single_left (chains_of r);
  moves = led_moves r;
  one = true;
}

-- by the tree as many moves are left as its readers have elements left
abbrev pub way_view : Way → PlanView
way_view Nothing = nothing
way_view (Tree d) = record { list = d.list; all = d.all; place = d.place; left = d.left; moves = d.left; one = d.one }
way_view (Led r) = led_view r

-- what each way keeps
abbrev pub IsSoundWay : Way → Type 0
IsSoundWay Nothing = Unit {0}
IsSoundWay (Tree d) = IsReading d
IsSoundWay (Led r) = IsSoundLed r
