mod RowsRead
mod Steps
