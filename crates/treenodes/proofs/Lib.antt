pub mod FromFnLaws
