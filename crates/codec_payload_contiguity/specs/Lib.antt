pub mod ContiguityTable
