use Rattle.alta_store.proofs.Agreements.{knows_of}
use Rattle.alta_store.proofs.SearchLaws.{finds, within}
use Rattle.alta_store.proofs.laws.a_search_sees_the_state.Goals as goal

pub returns : goal.returns
returns g c = record {
  knows = λ disk store agrees s told stands. knows_of g.D.Disk.tells (g.D.Disk.state disk) store agrees s told stands;
  finds = λ disk store agrees s told stands levels newest gone rows searched. finds g.D.Disk.tells (g.D.Disk.state disk) store agrees s told stands levels newest gone rows searched;
  within = λ disk store agrees told. within g.D.Disk.tells (g.D.Disk.state disk) store agrees told;
}
