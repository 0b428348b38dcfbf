pub mod PremisesView
