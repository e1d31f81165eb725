pub mod FrontLemmas
pub mod ListLemmas
pub mod ListedLemmas
pub mod NumberLemmas
pub mod RowLemmas
pub mod SectionLemmas
pub mod StringLemmas
pub mod UnitLemmas
